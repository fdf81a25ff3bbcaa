use Rattle.std.proofs.Common.{rules, ◌≡◌, ap, ◌∙◌, is_some, subst, suc, sym, true, List}
use Rattle.std.proofs.lemmas.List.Elements.{filter_from_retain}
use Rattle.object_log.proofs.SlotLemmas.{object_filter, rises_filter}
use Rattle.object_log.specs.Slots.{object_in, rises}
use Rattle.object_log.specs.declared.slots.IdSlot.{IdSlot}
use Rattle.object_log.proofs.slots.Slots.retain_live.Goals as goal

pub invariant_of-self : goal.invariant_of-self
invariant_of-self g c =
    let t = c.args.self.now in
    let keep = λ (s : IdSlot g.row.T.Denot). is_some s.object in
    let kept = filter_from_retain _ keep (λ p x b q h. search rules) _ t.items.items c.retain.new.self.items c.retain.ensures.filtered in
    record { rising = subst (λ (l : List (IdSlot g.row.T.Denot)). rises 0 (suc t.created) l ≡ true) (sym kept) (rises_filter keep 0 (suc t.created) t.items.items t.rising) }

pub returns-clause-same : goal.returns-clause-same
returns-clause-same g c = λ q.
    let t = c.args.self.now in
    let keep = λ (s : IdSlot g.row.T.Denot). is_some s.object in
    let kept = filter_from_retain _ keep (λ p x b q h. search rules) _ t.items.items c.retain.new.self.items c.retain.ensures.filtered in
    ap (λ (l : List (IdSlot g.row.T.Denot)). object_in l q) kept ∙ object_filter 0 (suc t.created) q t.items.items t.rising
