use Rattle.std.proofs.Common.{ap, filter, is_some, map, ◌∙◌, List}
use Rattle.std.proofs.lemmas.List.{take_all}
use Rattle.object_log.proofs.TouchedLemmas.{live_slots}
use Rattle.object_log.specs.declared.slots.IdSlot.{IdSlot}
use Rattle.object_log.proofs.log.ObjectLog.live_ids.Goals as goal

pub returns : goal.returns
returns g c =
    let t = c.args.self.now in
    let ids = λ (l : List (IdSlot g.row.T.Denot)). map (λ (s : IdSlot g.row.T.Denot). s.id) (filter (λ (s : IdSlot g.row.T.Denot). is_some s.object) l) in
    c.loop-slot.invariant ∙ ap ids (take_all c.loop-slot.slot-index c.deref-slot-items.result.now c.loop-slot-test.false ∙ c.deref-slot-items.ensures.value) ∙ live_slots t.told.items t.slots.created t.slots.items.items t.slots.rising t.numbered t.standing
