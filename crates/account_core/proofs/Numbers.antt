-- Numbers that are given in order.
use Rattle.std.proofs.lemmas.Bool.{false≢true}
use Rattle.std.proofs.Common.{◌≡◌, ◌⊎◌, inl, inr, ◌+◌, ◌-◌, ◌<◌, ◌≤◌, ◌==◌, ◌||◌, Bool, true, false, ℕ, zero, suc, List, [], ◌∷◌, ◌++◌, is_some, length, arith, add-zero, add-one, refl, sym, ap, ◌∙◌, max, subst}
use Rattle.std.proofs.lemmas.Bool.Decides.{nat_tests}
use Rattle.std.proofs.lemmas.List.FromFn.{length-range_with_len}
use Rattle.std.specs.List.{range_with_len}
use Rattle.std.specs.Prelude.{nat_le}
use Rattle.account_rooms.proofs.Changes.{with_known}
use Rattle.spec_history.specs.History.{ids_at, next_number, live_object, with_id}
use Rattle.spec_history.specs.Pages.{is_in}
use Rattle.spec_history.specs.declared.entry.Change.{Change}
use Rattle.spec_history.specs.declared.entry.Kind.{Kind}
use Rattle.spec_bookings.proofs.Numbered.{numbered_if_live}

-- one number more
range_more : (a n : ℕ) → range_with_len a (suc n) ≡ range_with_len a n ++ (a + n) ∷ []
range_more a zero = rw add-zero refl
range_more a (suc n) = ap (λ ns. a ∷ ns) (range_more (a + 1) n ∙ ap (λ m. range_with_len (a + 1) n ++ m ∷ []) (omega arith))

differs : (a m : ℕ) → a < m → (a == m) ≡ false
differs a m h = grind (arith, nat_tests)

-- the next number is new
is_new : (a n m : ℕ) → a + n ≡ m → is_in (range_with_len a n) m ≡ false
is_new a zero m e = refl
is_new a (suc n) m e = rw (differs a m (omega (arith, e))) (is_new (a + 1) n m (omega (arith, e)))

with_next : (n : ℕ) → with_id (range_with_len 1 n) (n + 1) ≡ range_with_len 1 (n + 1)
with_next n =
    let last : range_with_len 1 (n + 1) ≡ range_with_len 1 n ++ (n + 1) ∷ [] = rw (add-one n) (range_more 1 n ∙ ap (λ m. range_with_len 1 n ++ m ∷ []) (omega arith)) in
    rw (is_new 1 n (n + 1) (omega arith)) (sym last)

pub next_is : (cs : List Change) (n : ℕ) (kind : Kind) → ids_at cs kind ≡ range_with_len 1 n → next_number cs kind ≡ n + 1
next_is cs n kind h = omega (arith, ap length h, length-range_with_len 1 n)

in_range_by : (a n id : ℕ) (same : Bool) → (a == id) ≡ same → ((is_in (range_with_len (a + 1) n) id ≡ true) → id < (a + 1) + n) → (same || is_in (range_with_len (a + 1) n) id) ≡ true → id < a + suc n
in_range_by a n id true is rest h = grind (arith, nat_tests)
in_range_by a n id false is rest h = omega (arith, rest h)

-- numbers of a range lie in it
pub in_range : (a n id : ℕ) → is_in (range_with_len a n) id ≡ true → id < a + n
in_range a zero id h = absurd (false≢true h)
in_range a (suc n) id h = in_range_by a n id (a == id) refl (in_range (a + 1) n id) h

-- after a change of the next object or of one that is there the numbers are still in order
pub numbers_counted : (cs : List Change) (c : Change) (n : ℕ) → ids_at cs c.kind ≡ range_with_len 1 n → (c.id ≡ next_number cs c.kind) ⊎ (is_some (live_object cs c.kind c.id) ≡ true)
    → with_id (ids_at cs c.kind) c.id ≡ range_with_len 1 (max n c.id)
numbers_counted cs c n h (inl next) =
    let number : c.id ≡ n + 1 = next ∙ next_is cs n c.kind h in
    rw (h, number) (with_next n ∙ ap (range_with_len 1) (omega arith))
numbers_counted cs c n h (inr live) =
    let known : is_in (range_with_len 1 n) c.id ≡ true = subst (λ ids. is_in ids c.id ≡ true) h (numbered_if_live cs c.kind c.id _ [] (λ e. absurd (false≢true e)) live) in
    rw h (with_known (range_with_len 1 n) c.id known ∙ ap (range_with_len 1) (omega (arith, in_range 1 n c.id known)))

-- the next number was not given
pub new_is_next : (cs : List Change) (n : ℕ) (kind : Kind) → ids_at cs kind ≡ range_with_len 1 n → is_in (ids_at cs kind) (next_number cs kind) ≡ false
new_is_next cs n kind h = ap (λ ids. is_in ids (next_number cs kind)) h ∙ is_new 1 n (next_number cs kind) (omega (arith, next_is cs n kind h))

-- what fits beside so much
pub fits_beside : (x p m : ℕ) → x ≤ m → nat_le p (m - x) ≡ nat_le (x + p) m
fits_beside x p m within = grind (arith, nat_tests)
