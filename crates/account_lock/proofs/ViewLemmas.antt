-- Views of passes where one is changed, or one comes last.
use Rattle.std.proofs.Common.{◌≡◌, ◌≢◌, ℕ, zero, suc, ◌+◌, ◌*◌, ◌<◌, ◌≤◌, List, [], ◌∷◌, ◌++◌, length, set, sym, refl, ap, ◌∙◌, subst, ⊎_elim, arith, Some, slice_get}
use Rattle.std.specs.Prelude.{sum_by}
use Rattle.std.proofs.lemmas.List.Sums.{sum_by-cons}
use mathlib.Core.Option.{some-injective, some-ne-none}
use lib.ListN.{get_elem?}
use Rattle.atomic_table.proofs.Lists.{at_set}
use Rattle.account_lock.specs.Lock.{PassView}
use Rattle.account_lock.specs.TicketRule.{At}

pub sum_by-set_view : (f : PassView → ℕ) (vs : List PassView) (i : ℕ) (v w : PassView) → At vs i v → sum_by f (set vs i w) + f v ≡ sum_by f vs + f w
sum_by-set_view f [] i v w at = absurd (some-ne-none v (sym at))
sum_by-set_view f (x ∷ xs) zero v w at =
    let is : f x ≡ f v = ap f (some-injective x v at) in
    let new = sum_by-cons f w xs in
    let old = sum_by-cons f x xs in
    omega arith
sum_by-set_view f (x ∷ xs) (suc i) v w at =
    let tail = sum_by-set_view f xs i v w at in
    let new = sum_by-cons f x (set xs i w) in
    let old = sum_by-cons f x xs in
    omega arith

pub sum_by-most : (f : PassView → ℕ) (m : ℕ) (vs : List PassView) → ((i : ℕ) (v : PassView) → At vs i v → f v ≤ m) → sum_by f vs ≤ length vs * m
sum_by-most f m [] each = omega arith
sum_by-most f m (x ∷ xs) each = let here = each 0 x refl in let tail = sum_by-most f m xs (λ i v. each (suc i) v) in let all = sum_by-cons f x xs in grind arith

-- what holds of the new view at its place, and of the others, holds of each
pub each_set : (P : ℕ → PassView → Type 0) (vs : List PassView) (id : ℕ) (w : PassView) → ((i : ℕ) (v : PassView) → i ≢ id → At vs i v → P i v) → P id w → (i : ℕ) (v : PassView) → At (set vs id w) i v → P i v
each_set P vs id w others here i v at = ⊎_elim (λ c. subst (λ (z : ℕ × PassView). P z.0 z.1) (λ k. (sym c.0 k, c.1 k)) here) (λ c. others i v c.0 c.1) (at_set vs id i w v at)

pub each_last : (P : ℕ → PassView → Type 0) (vs : List PassView) (w : PassView) → ((i : ℕ) (v : PassView) → At vs i v → P i v) → P (length vs) w → (i : ℕ) (v : PassView) → At (vs ++ w ∷ []) i v → P i v
each_last P [] w others here zero v at = subst (P zero) (some-injective w v at) here
each_last P [] w others here (suc i) v at = absurd (some-ne-none v (sym at))
each_last P (x ∷ xs) w others here zero v at = others zero v at
each_last P (x ∷ xs) w others here (suc i) v at = each_last (λ k u. P (suc k) u) xs w (λ k u. others (suc k) u) (subst (λ (k : ℕ). P k w) (omega arith) here) i v at

pub at_inside : (vs : List PassView) (i : ℕ) (v : PassView) → At vs i v → i < length vs
at_inside [] i v at = absurd (some-ne-none v (sym at))
at_inside (x ∷ xs) zero v at = omega arith
at_inside (x ∷ xs) (suc i) v at = let tail = at_inside xs i v at in omega arith

-- two views at one place are one
pub same_at : (vs : List PassView) (i j : ℕ) (v w : PassView) → i ≡ j → At vs i v → At vs j w → v ≡ w
same_at vs i j v w is at at' = some-injective v w (sym at ∙ (ap (λ (k : ℕ). get_elem? vs k) is ∙ at'))

pub get_from_at : (vs : List PassView) (i : ℕ) (v : PassView) → At vs i v → slice_get vs i ≡ Some v
get_from_at [] i v at = absurd (some-ne-none v (sym at))
get_from_at (x ∷ xs) zero v at = ap Some (some-injective x v at)
get_from_at (x ∷ xs) (suc i) v at = get_from_at xs i v at
