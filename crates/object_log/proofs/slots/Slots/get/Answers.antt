use Rattle.std.proofs.Common.{sym, ap, ◌∙◌, suc}
use Rattle.object_log.proofs.SlotLemmas.{found_at}
use Rattle.object_log.specs.Slots.{object_in}
use Rattle.object_log.specs.declared.slots.IdSlot.{IdSlot}
use Rattle.object_log.proofs.slots.Slots.get.Goals as goal

pub returns-in-Some : goal.returns-in-Some
returns-in-Some g c =
    let t = c.args.self.now in
    let s = c.index.result.now in
    let at = c.in-Some.place in
    c.as_ref.ensures.value ∙ ap (λ (r : IdSlot g.row.T.Denot). r.object) c.index.ensures
    ∙ sym (found_at 0 (suc t.created) at t.items.items s t.rising c.in-Some.ensures.within) ∙ ap (object_in t.items.items) (c.in-Some.ensures.found s)
