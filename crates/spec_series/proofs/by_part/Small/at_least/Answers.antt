-- Why the search finds the least item from the number on.
use Rattle.std.proofs.Common.{FitsSigned, w32}
use Rattle.std.specs.Ordering.{int_eq}
use Rattle.std.proofs.lemmas.Int.{to_z-of_z}
use Rattle.spec_series.proofs.LeastItems.{found_itself, none_after, some_after, least_alike}
use Rattle.spec_series.proofs.by_part.Small.at_least.Goals as goal

pub returns-in-Ok-clause-some : goal.returns-in-Ok-clause-some
returns-in-Ok-clause-some c =
    let f : FitsSigned w32 c.args.number = c.ranges.number in
    let position = simp to_z-of_z at c.in-Ok.ensures.position in
    let items = c.deref.ensures.value in
    simp to_z-of_z (least_alike c.args.self.now c.deref.result.now c.args.number c.args.number (λ m. rw (items, ← c.self.view_is) (c.self.inside.same (λ k. int_eq k m)))
    (found_itself c.deref.result.now c.args.number c.in-Ok.field-0 c.in-Ok.ensures.bound position))

pub returns-in-Err-clause-none : goal.returns-in-Err-clause-none
returns-in-Err-clause-none c =
    let f : FitsSigned w32 c.args.number = c.ranges.number in
    let position = rw c.deref.ensures.value at (simp to_z-of_z at c.in-Err.ensures.position) in
    let found = rw c.deref-in-Err.ensures.value at c.get.ensures.lookup.3 in
    rw c.copied.ensures
    (none_after c.args.self.now c.self.inside.sorted.items c.args.number c.in-Err.place c.get.result (λ m. rw (← c.self.view_is) (c.self.inside.same (λ k. int_eq k m))) c.self.inside.rising position found)

pub returns-in-Err-clause-some : goal.returns-in-Err-clause-some
returns-in-Err-clause-some c =
    let f : FitsSigned w32 c.args.number = c.ranges.number in
    let position = rw c.deref.ensures.value at (simp to_z-of_z at c.in-Err.ensures.position) in
    let found = rw c.deref-in-Err.ensures.value at c.get.ensures.lookup.3 in
    rw c.copied.ensures
    (some_after c.args.self.now c.self.inside.sorted.items c.args.number c.in-Err.place c.get.result (λ m. rw (← c.self.view_is) (c.self.inside.same (λ k. int_eq k m))) c.self.inside.rising position found)
