use Rattle.std.proofs.Common.{◌≡◌, ap, ◌∙◌, ◌+◌, suc, sym, subst, true, arith, List}
use Rattle.object_log.proofs.SlotLemmas.{object_push, rises_push}
use Rattle.object_log.specs.Slots.{object_in, rises}
use Rattle.object_log.specs.declared.slots.IdSlot.{IdSlot}
use Rattle.object_log.proofs.slots.Slots.push_reserved.Goals as goal

pub invariant_of-self : goal.invariant_of-self
invariant_of-self g c =
    let t = c.args.self.now in
    let s : IdSlot g.row.T.Denot = record { id = t.created + 1; object = c.args.object } in
    let next : suc t.created ≡ t.created + 1 = omega arith in
    let up = subst (λ n. rises 0 n t.items.items ≡ true) next t.rising in
    record { rising = subst (λ (l : List (IdSlot g.row.T.Denot)). rises 0 (suc (t.created + 1)) l ≡ true) (sym c.push_reserved.ensures.items) (rises_push 0 (suc (t.created + 1)) t.items.items s up (omega arith)) }

pub returns-clause-after : goal.returns-clause-after
returns-clause-after g c = λ q.
    let t = c.args.self.now in
    let s : IdSlot g.row.T.Denot = record { id = t.created + 1; object = c.args.object } in
    let next : suc t.created ≡ t.created + 1 = omega arith in
    let up = subst (λ n. rises 0 n t.items.items ≡ true) next t.rising in
    rw next (ap (λ (l : List (IdSlot g.row.T.Denot)). object_in l q) c.push_reserved.ensures.items ∙ object_push 0 t.items.items s q up)
