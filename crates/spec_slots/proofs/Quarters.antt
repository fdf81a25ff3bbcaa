-- The quarters of an hour in a row.
use Rattle.std.proofs.Common.{◌≡◌, ◌==◌, ℕ, zero, suc, ◌+◌, ◌<◌, ◌≤◌, ℤ, pos, negsuc, ◌+ℤ◌, ◌-ℤ◌, ◌*ℤ◌, ◌≤ℤ◌, ◌<ℤ◌, true, false, List, [], ◌∷◌, ◌++◌, filter, unsigned_abs, refl, ap, arith, ◌∙◌}
use Rattle.std.proofs.lemmas.Int.{ints, by_lt_z}
use Rattle.std.proofs.lemmas.Bool.Decides.{nat_tests}
use Rattle.std.proofs.lemmas.List.Elements.{filter-append}
use Rattle.spec_series.specs.Numbers.{numbers_from}
use Rattle.spec_time.specs.Floor.{floor_div, modulo}
use Rattle.spec_slots.specs.Quarters.{is_quarter, quarters}

-- the wall second at which the m-th quarter begins
abbrev pub quarter_at : ℤ → ℤ
quarter_at m = m *ℤ pos 900

none_and : (k : ℕ) → 0 + k ≡ k
none_and k = omega arith

one_and : (j k : ℕ) → suc j + k ≡ suc (j + k)
one_and j k = omega arith

by_none : (n : ℤ) → n ≡ n +ℤ pos 0
by_none n = omega (arith, ints)

by_one : (n : ℤ) (j : ℕ) → (n +ℤ pos 1) +ℤ pos j ≡ n +ℤ pos (suc j)
by_one n j = omega (arith, ints)

pub numbers_join : (n : ℤ) (j k : ℕ) → numbers_from n (j + k) ≡ numbers_from n j ++ numbers_from (n +ℤ pos j) k
unfolding numbers_from
numbers_join n zero k = ap (λ i. numbers_from n i) (none_and k) ∙ ap (λ m. numbers_from m k) (by_none n)
numbers_join n (suc j) k =
    ap (λ i. numbers_from n i) (one_and j k)
    ∙ (ap (λ ms. n ∷ ms) (numbers_join (n +ℤ pos 1) j k) ∙ ap (λ m. n ∷ (numbers_from (n +ℤ pos 1) j ++ numbers_from m k)) (by_one n j))

rest_of : (z m : ℤ) (r : ℕ) → r < 900 → z ≡ quarter_at m +ℤ pos r → modulo z 900 ≡ r
rest_of (pos a) m r small e = omega (arith, ints)
rest_of (negsuc a) m r small e = omega (arith, ints)

pub at_quarter : (m : ℤ) → is_quarter (quarter_at m) ≡ true
at_quarter m = let e = rest_of (quarter_at m) m 0 (omega arith) (omega (arith, ints)) in rw e refl

behind_quarter : (z m : ℤ) (r : ℕ) → 0 < r → r < 900 → z ≡ quarter_at m +ℤ pos r → is_quarter z ≡ false
behind_quarter z m r some small e = let h = rest_of z m r small e in rw h (grind (arith, nat_tests))

no_quarters : (z m : ℤ) (r k : ℕ) → 0 < r → r + k ≤ 900 → z ≡ quarter_at m +ℤ pos r → filter is_quarter (numbers_from z k) ≡ []
unfolding numbers_from
no_quarters z m r zero some small e = refl
no_quarters z m r (suc k) some small e =
    rw (behind_quarter z m r some (omega arith) e) (no_quarters (z +ℤ pos 1) m (r + 1) k (omega arith) (omega arith) (omega (arith, ints)))

nothing : (z : ℤ) → filter is_quarter (numbers_from z 0) ≡ []
unfolding numbers_from
nothing z = refl

exact : (r : ℕ) → (r == 0) ≡ true → r ≡ 0
exact r h = grind (arith, nat_tests)

whole : (x : ℤ) → modulo x 900 ≡ 0 → x ≡ quarter_at (floor_div x 900)
whole (pos a) h = omega (arith, ints)
whole (negsuc a) h = omega (arith, ints)

-- Quarters from one wall second to another.

parts : (a b c : ℤ) → a ≤ℤ b → b ≤ℤ c → unsigned_abs (c -ℤ a) ≡ unsigned_abs (b -ℤ a) + unsigned_abs (c -ℤ b)
parts a b c h k = omega (arith, ints)

there : (a b : ℤ) → a ≤ℤ b → a +ℤ pos (unsigned_abs (b -ℤ a)) ≡ b
there a b h = omega (arith, ints)

no_number : (a : ℤ) → unsigned_abs (a -ℤ a) ≡ 0
no_number a = omega (arith, ints)

pub quarters_nothing : (a : ℤ) → quarters a a ≡ []
unfolding quarters
quarters_nothing a = ap (λ n. filter is_quarter (numbers_from a n)) (no_number a) ∙ nothing a

pub quarters_join : (a b c : ℤ) → a ≤ℤ b → b ≤ℤ c → quarters a c ≡ quarters a b ++ quarters b c
unfolding quarters
quarters_join a b c h k =
    ap (λ n. filter is_quarter (numbers_from a n)) (parts a b c h k)
    ∙ ap (filter is_quarter) (numbers_join a (unsigned_abs (b -ℤ a)) (unsigned_abs (c -ℤ b)))
    ∙ filter-append is_quarter (numbers_from a (unsigned_abs (b -ℤ a))) (numbers_from (a +ℤ pos (unsigned_abs (b -ℤ a))) (unsigned_abs (c -ℤ b)))
    ∙ ap (λ z. filter is_quarter (numbers_from a (unsigned_abs (b -ℤ a))) ++ filter is_quarter (numbers_from z (unsigned_abs (c -ℤ b)))) (there a b h)

-- up to the first quarter there is none
pub quarters_before : (a b m : ℤ) → a ≤ℤ b → b ≤ℤ quarter_at m → quarter_at m <ℤ (a +ℤ pos 900) → quarters a b ≡ []
unfolding quarters
quarters_before a b m h high low =
    by_lt_z a (quarter_at m)
    (λ lt. no_quarters a (m -ℤ pos 1) (unsigned_abs (a -ℤ quarter_at (m -ℤ pos 1))) (unsigned_abs (b -ℤ a)) (omega (arith, ints)) (omega (arith, ints)) (omega (arith, ints)))
    (λ ge. let none : unsigned_abs (b -ℤ a) ≡ 0 = omega (arith, ints) in ap (λ n. filter is_quarter (numbers_from a n)) none ∙ nothing a)

some_number : (n : ℕ) → 0 < n → (k : ℕ) × (n ≡ suc k)
some_number zero h = absurd (omega arith)
some_number (suc k) h = (k, refl)

first_number : (m : ℤ) (k : ℕ) → filter is_quarter (numbers_from (quarter_at m) (suc k)) ≡ quarter_at m ∷ filter is_quarter (numbers_from (quarter_at m +ℤ pos 1) k)
unfolding numbers_from
first_number m k = rw (at_quarter m) refl

-- a quarter comes first of those from it on
pub quarters_from : (m b : ℤ) → quarter_at m <ℤ b → (rest : List ℤ) × (quarters (quarter_at m) b ≡ quarter_at m ∷ rest)
unfolding quarters
quarters_from m b h =
    let n = some_number (unsigned_abs (b -ℤ quarter_at m)) (omega (arith, ints)) in
    (filter is_quarter (numbers_from (quarter_at m +ℤ pos 1) n.0), ap (λ j. filter is_quarter (numbers_from (quarter_at m) j)) n.1 ∙ first_number m n.0)

-- and alone up to the next
pub one_quarter : (m b : ℤ) → quarter_at m <ℤ b → b ≤ℤ (quarter_at m +ℤ pos 900) → quarters (quarter_at m) b ≡ quarter_at m ∷ []
unfolding quarters
one_quarter m b h high =
    let n = some_number (unsigned_abs (b -ℤ quarter_at m)) (omega (arith, ints)) in
    ap (λ j. filter is_quarter (numbers_from (quarter_at m) j)) n.1 ∙ first_number m n.0
    ∙ ap (λ xs. quarter_at m ∷ xs) (no_quarters (quarter_at m +ℤ pos 1) m 1 n.0 (omega arith) (omega (arith, ints, n.1)) (omega (arith, ints)))

-- a quarter has a number
pub quarter_of : (x : ℤ) → is_quarter x ≡ true → (m : ℤ) × (x ≡ quarter_at m)
quarter_of x h = (floor_div x 900, whole x (exact (modulo x 900) h))
