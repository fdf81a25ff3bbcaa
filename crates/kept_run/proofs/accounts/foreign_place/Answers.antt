use Rattle.std.proofs.Common.{◌≡◌, ◌∙◌, ◌+◌, ◌<◌, ◌^◌, ℕ, List, IfNone, IfSome, Option, Some, None, SomeIff, ap, arith, length}
use Rattle.kept_run.specs.Opened.{foreign_place}
use Rattle.kept_run.proofs.OpenLemmas.{none_in_all, place_in_all, too_far, too_long}
use Rattle.spec_history.specs.declared.entry.Entry.{Entry}
use Rattle.spec_snapshots.specs.Kept.{IsKeptFrom}
use Rattle.kept_run.proofs.accounts.foreign_place.Goals as goal

pub returns-in_err-place-clause-none : goal.returns-in_err-place-clause-none
returns-in_err-place-clause-none c = rw c.from_residual.ensures (λ h kept few. none_in_all h c.args.kept.now kept (c.in_err-place.ensures ∙ ap foreign_place c.deref.ensures.value))

pub returns-in_err-front-clause-none : goal.returns-in_err-front-clause-none
returns-in_err-front-clause-none c = rw c.from_residual-in_err-front.ensures (λ h kept few. too_long h c.args.kept.now kept (2 ^ 64) (let far = c.in_err-front.ensures in omega (arith, far)) few)

pub returns-clause-some : goal.returns-clause-some
returns-clause-some c = by_sum c.checked_add-2.result c.checked_add-2.ensures
  where
    by_sum : (o : Option ℕ) → SomeIff o (c.in_ok-front.front + c.in_ok-place.place < 2 ^ 64) (c.in_ok-front.front + c.in_ok-place.place)
        → IfSome o (λ place. (h : List Entry) → IsKeptFrom h c.args.kept.now → foreign_place h ≡ Some place)
    by_sum None s = tt
    by_sum (Some place) s = λ h kept. place_in_all h c.args.kept.now kept c.in_ok-place.place c.in_ok-front.front place (c.in_ok-place.ensures ∙ ap foreign_place c.deref.ensures.value) c.in_ok-front.ensures.1 s.1

pub returns-clause-none : goal.returns-clause-none
returns-clause-none c = by_sum c.checked_add-2.result c.checked_add-2.ensures
  where
    by_sum : (o : Option ℕ) → SomeIff o (c.in_ok-front.front + c.in_ok-place.place < 2 ^ 64) (c.in_ok-front.front + c.in_ok-place.place)
        → IfNone o ((h : List Entry) → IsKeptFrom h c.args.kept.now → length h < 2 ^ 64 → foreign_place h ≡ None)
    by_sum None s = λ h kept few.
        too_far h c.args.kept.now kept c.in_ok-place.place (2 ^ 64) (c.in_ok-place.ensures ∙ ap foreign_place c.deref.ensures.value)
        (let front = c.in_ok-front.ensures.1 in let far = s in omega (arith, front, far)) few
    by_sum (Some place) s = tt
