use Rattle.std.proofs.Common.{rules, ◌≤◌, length, subst, suc, Ok, Err, List}
use Rattle.std.proofs.lemmas.List.Sorted.{answers_always}
use Rattle.std.specs.List.Sorted.{IsBinarySearchResult}
use Rattle.std.specs.Ordering.{nat_cmp}
use Rattle.object_log.proofs.SlotLemmas.{searched_absent, searched_found}
use Rattle.object_log.specs.declared.slots.IdSlot.{IdSlot}
use Rattle.object_log.proofs.slots.Slots.place.Goals as goal

pub returns-in-Ok-clause-found : goal.returns-in-Ok-clause-found
returns-in-Ok-clause-found g c = λ s.
    let t = c.args.self.now in
    let key = λ (r : IdSlot g.row.T.Denot). r.id in
    let found = c.in-Ok.ensures.position key (answers_always _ _ _ (λ f a r h called. search rules)) in
    searched_found 0 (suc t.created) c.args.id t.items.items t.rising c.in-Ok.place s
    (subst (λ (l : List (IdSlot g.row.T.Denot)). IsBinarySearchResult (λ (r : IdSlot g.row.T.Denot). nat_cmp r.id c.args.id) l (Ok c.in-Ok.place)) c.deref.ensures.value found)

pub returns-in-Err-clause-absent : goal.returns-in-Err-clause-absent
returns-in-Err-clause-absent g c =
    let t = c.args.self.now in
    let key = λ (r : IdSlot g.row.T.Denot). r.id in
    let parted = c.in-Err.ensures.position key (answers_always _ _ _ (λ f a r h called. search rules)) in
    let within : c.in-Err.field-0 ≤ length t.items.items = subst (λ (l : List (IdSlot g.row.T.Denot)). c.in-Err.field-0 ≤ length l) c.deref.ensures.value c.in-Err.ensures.bound in
    searched_absent 0 (suc t.created) c.args.id t.items.items t.rising c.in-Err.field-0 within
    (subst (λ (l : List (IdSlot g.row.T.Denot)). IsBinarySearchResult (λ (r : IdSlot g.row.T.Denot). nat_cmp r.id c.args.id) l (Err c.in-Err.field-0)) c.deref.ensures.value parted)
