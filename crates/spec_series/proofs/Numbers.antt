-- What is found among whole numbers in a row.
use Rattle.std.proofs.Common.{◌≡◌, ℕ, zero, suc, ◌^◌, ℤ, pos, ◌+ℤ◌, ◌-ℤ◌, ◌≤ℤ◌, ◌<ℤ◌, Bool, true, false, refl, arith}
use Rattle.std.specs.List.{list_any}
use Rattle.std.proofs.lemmas.Int.{ints, by_lt_z}
use Rattle.spec_series.specs.Numbers.{numbers_from, seconds_around}

by_bool : {Q : Type 0} (b : Bool) → (b ≡ true → Q) → (b ≡ false → Q) → Q
by_bool true f g = f refl
by_bool false f g = g refl

any_to : (p : ℤ → Bool) (from : ℤ) (n : ℕ) → list_any p (numbers_from from n) ≡ true → (x : ℤ) × (p x ≡ true)
unfolding numbers_from
any_to p from zero h = absurd (cc h)
any_to p from (suc n) h = by_bool (p from) (λ e. (from, e)) (λ e. any_to p (from +ℤ pos 1) n (rw e at h))

to_any : (p : ℤ → Bool) (from : ℤ) (n : ℕ) (x : ℤ) → p x ≡ true → from ≤ℤ x → x <ℤ (from +ℤ pos n) → list_any p (numbers_from from n) ≡ true
unfolding numbers_from
to_any p from zero x h low high = absurd (omega (arith, ints, low, high))
to_any p from (suc n) x h low high = by_bool (p from)
    (λ e. rw e refl)
    (λ e. rw e (to_any p (from +ℤ pos 1) n x h
    (by_lt_z from x (λ lt. omega (arith, ints, lt)) (λ ge. let same : x ≡ from = omega (arith, ints, low, ge) in let no = rw same at h in absurd (cc (no, e))))
    (omega (arith, ints, high))))

-- around a second: what is found passes
pub any_around : (p : ℤ → Bool) (w : ℤ) → list_any p (seconds_around w) ≡ true → (x : ℤ) × (p x ≡ true)
unfolding seconds_around
any_around p w h = any_to p (w -ℤ pos (2 ^ 57)) (2 ^ 58) h

-- and what passes is found
pub around_any : (p : ℤ → Bool) (w x : ℤ) → p x ≡ true → (w -ℤ pos (2 ^ 57)) ≤ℤ x → x <ℤ (w +ℤ pos (2 ^ 57)) → list_any p (seconds_around w) ≡ true
unfolding seconds_around
around_any p w x h low high = to_any p (w -ℤ pos (2 ^ 57)) (2 ^ 58) x h low (omega (arith, ints, high))
