-- Lemmas for the end of a rule's set.
use Rattle.std.proofs.Common.{◌≡◌, ℕ, zero, suc, ◌+◌, ◌-◌, ◌<◌, ◌≤◌, Bool, true, false, ap, ◌∙◌, arith, ℤ, pos, ◌+ℤ◌}
use Rattle.spec_series.specs.Places.{count_days}

-- days that don't pass the test add nothing
count_gap : (p : ℤ → Bool) (first : ℤ) (k m : ℕ) → ((j : ℕ) → k ≤ j → j < k + m → p (first +ℤ pos j) ≡ false) → count_days p first (m + k) ≡ count_days p first k
unfolding count_days
count_gap p first k zero h = let e : 0 + k ≡ k = omega arith in rw e
count_gap p first k (suc m) h =
    let e : suc m + k ≡ suc (m + k) = omega arith in
    let off : p (first +ℤ pos (m + k)) ≡ false = h (m + k) (omega arith) (omega arith) in
    rw (e, off, count_gap p first k m (λ j low high. h j low (omega arith))) (omega arith)

-- the next day of a set has a count that is one higher
pub count_next : (p : ℤ → Bool) (first : ℤ) (a b : ℕ) → a < b → p (first +ℤ pos b) ≡ true → ((j : ℕ) → a < j → j < b → p (first +ℤ pos j) ≡ false)
    → count_days p first (suc b) ≡ count_days p first (suc a) + 1
unfolding count_days
count_next p first a b lt here gap =
    let m = b - suc a in
    let e : b ≡ m + suc a = omega arith in
    let g = count_gap p first (suc a) m (λ j low high. gap j (omega arith) (omega arith)) in
    rw here (ap (λ x. x + 1) (ap (count_days p first) e ∙ g))
