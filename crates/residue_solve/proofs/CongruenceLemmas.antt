-- Laws of congruence.
use Rattle.std.proofs.Common.{◌≡◌, ℕ, ◌<◌, ◌/◌, ◌%◌, ℤ, pos, negsuc, ◌+ℤ◌, ◌-ℤ◌, ◌*ℤ◌, ◌≤ℤ◌, ◌<ℤ◌, ◌↔◌, arith, neg_ℤ, mod-lt}
use Rattle.std.specs.Int.{int_rem_euclid}
use Rattle.std.proofs.lemmas.Int.{ints, by_lt_z}
use Rattle.std.proofs.Math.IntN.{pos-*ℤ-pos}
use Rattle.residue_solve.proofs.IntRing.{sums, products, multiple_above}
use Rattle.residue_solve.specs.Congruence.{Congruent}

pub Congruent-sym : (n x y : ℤ) → Congruent n x y → Congruent n y x
Congruent-sym n x y h = (neg_ℤ h.0, simp products (omega (arith, sums, simp products at h.1)))

pub Congruent-trans : (n x y z : ℤ) → Congruent n x y → Congruent n y z → Congruent n x z
Congruent-trans n x y z h g = (h.0 +ℤ g.0, simp products (omega (arith, sums, simp products at h.1, simp products at g.1)))

-- a number agrees with its remainder
pub Congruent-rem : (x n : ℕ) → Congruent (pos n) (pos x) (pos (x % n))
Congruent-rem x n = (pos (x / n), omega (arith, sums, pos-*ℤ-pos (x / n) n))

pub Congruent-rem_euclid : (z : ℤ) (n : ℕ) → 0 < n → Congruent (pos n) z (int_rem_euclid z (pos n))
Congruent-rem_euclid (pos x) n h = Congruent-rem x n
Congruent-rem_euclid (negsuc x) n h = (negsuc (x / n), omega (arith, ints))

rem_euclid_range : (z : ℤ) (n : ℕ) → 0 < n → (pos 0 ≤ℤ int_rem_euclid z (pos n)) × (int_rem_euclid z (pos n) <ℤ pos n)
rem_euclid_range (pos x) n h = let m = mod-lt x h in (omega (arith, ints, m), omega (arith, ints, m))
rem_euclid_range (negsuc x) n h = let m = mod-lt x h in (omega (arith, ints, m), omega (arith, ints, m))

-- two numbers that agree modulo n and lie less than n apart are one
Congruent-near : (n : ℕ) (x y : ℤ) → x <ℤ (y +ℤ pos n) → y <ℤ (x +ℤ pos n) → Congruent (pos n) x y → x ≡ y
Congruent-near n x y below above h =
    let back : neg_ℤ h.0 *ℤ pos n ≡ y -ℤ x = simp products (omega (arith, sums, simp products at h.1)) in
    by_lt_z x y
    (λ lt. absurd (omega (arith, sums, above, lt, back, multiple_above (neg_ℤ h.0) n (omega (arith, sums, lt, back)))))
    (λ le.
    by_lt_z y x
    (λ lt. absurd (omega (arith, sums, below, lt, h.1, multiple_above h.0 n (omega (arith, sums, lt, h.1)))))
    (λ ge. omega (arith, sums, le, ge)))

-- numbers agree modulo n exactly where their remainders are equal
pub Congruent-same_rem_euclid : (x y : ℤ) (n : ℕ) → 0 < n → Congruent (pos n) x y ↔ (int_rem_euclid x (pos n) ≡ int_rem_euclid y (pos n))
Congruent-same_rem_euclid x y n h =
    let m = pos n in
    let rx = int_rem_euclid x m in
    let ry = int_rem_euclid y m in
    let cx = Congruent-rem_euclid x n h in
    let cy = Congruent-rem_euclid y n h in
    let bx = rem_euclid_range x n h in
    let by = rem_euclid_range y n h in (
      (λ same.
          Congruent-near n rx ry (omega (arith, sums, bx, by)) (omega (arith, sums, bx, by))
          (Congruent-trans m rx x ry (Congruent-sym m x rx cx) (Congruent-trans m x y ry same cy))),
      (λ e. Congruent-trans m x rx y cx (rw e (Congruent-sym m y ry cy))),
    )
