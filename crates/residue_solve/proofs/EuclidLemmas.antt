-- The multiples of a in Euclid's algorithm, modulo n.
use Rattle.std.proofs.Common.{◌≡◌, ℕ, ◌+◌, ◌*◌, ◌-◌, ◌≤◌, ◌/◌, ◌%◌, ℤ, pos, ◌+ℤ◌, ◌*ℤ◌, arith, neg_ℤ, ap, sym}
use Rattle.std.proofs.Math.Nat.{div-add-mod'}
use Rattle.residue_solve.proofs.IntRing.{sums, products}
use Rattle.residue_solve.proofs.CongruenceLemmas.{Congruent-rem}
use Rattle.residue_solve.specs.Congruence.{Congruent}

-- one division carries on what the multipliers leave
step : (n a m0 m1 m2 t r0 r1 r2 : ℤ) →
    Congruent n (a *ℤ m0) r0 → Congruent n (a *ℤ m1) r1 →
    Congruent n (m0 +ℤ t *ℤ (n +ℤ neg_ℤ m1)) m2 → r0 ≡ t *ℤ r1 +ℤ r2 →
    Congruent n (a *ℤ m2) r2
step n a m0 m1 m2 t r0 r1 r2 h g m r = (
  h.0 +ℤ a *ℤ t +ℤ neg_ℤ (t *ℤ g.0) +ℤ neg_ℤ (a *ℤ m.0),
  simp products
      (omega (arith, sums, r, simp products at h.1, simp products at (ap (λ x. t *ℤ x) g.1), simp products at (ap (λ x. a *ℤ x) m.1))),
)

pub leaves_more : (n a m0 m1 r0 r1 : ℕ) → m1 ≤ n →
    Congruent (pos n) (pos a *ℤ pos m0) (pos r0) → Congruent (pos n) (pos a *ℤ pos m1) (pos r1) →
    Congruent (pos n) (pos a *ℤ pos ((m0 + r0 / r1 * (n - m1)) % n)) (pos (r0 % r1))
leaves_more n a m0 m1 r0 r1 below h g =
    let e : pos (n - m1) ≡ pos n +ℤ neg_ℤ (pos m1) = omega (arith, sums) in
    step (pos n) (pos a) (pos m0) (pos m1) (pos ((m0 + r0 / r1 * (n - m1)) % n)) (pos (r0 / r1)) (pos r0) (pos r1) (pos (r0 % r1)) h g
    (rw (← e) (Congruent-rem (m0 + r0 / r1 * (n - m1)) n)) (ap pos (sym (div-add-mod' r0 r1)))
