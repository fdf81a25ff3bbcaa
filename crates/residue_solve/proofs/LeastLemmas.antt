-- The least of a residue class from a number on.
use Rattle.std.proofs.Common.{◌≡◌, ℕ, ℤ, pos, ◌+ℤ◌, ◌-ℤ◌, ◌*ℤ◌, ◌≤ℤ◌, ◌<ℤ◌, ◌↔◌, arith, neg_ℤ}
use Rattle.std.proofs.lemmas.Int.{by_lt_z}
use Rattle.residue_solve.proofs.IntRing.{sums, products, multiple_above}
use Rattle.residue_solve.specs.Congruence.{Congruent}
use Rattle.residue_solve.specs.Least.{IsLeastFrom}

-- what lies less than n behind `from` and agrees with r is the first from there on that does
pub least_of_class : (n : ℕ) (r from d : ℤ) → pos 0 ≤ℤ d → d <ℤ pos n → Congruent (pos n) (r -ℤ from) d → IsLeastFrom from (λ x. Congruent (pos n) x r) (from +ℤ d)
least_of_class n r from d low high h = record {
  at_or_after = omega (arith, sums);
  holds = (neg_ℤ h.0, simp products (omega (arith, sums, simp products at h.1)));
  least = λ y after on.
      let z : ℤ = neg_ℤ h.0 +ℤ neg_ℤ on.0 in
      let gap : z *ℤ pos n ≡ (from +ℤ d) -ℤ y = simp products (omega (arith, sums, simp products at h.1, simp products at on.1)) in
      by_lt_z y (from +ℤ d)
      (λ below. let above : pos 0 <ℤ (z *ℤ pos n) = omega (arith, sums, gap, below) in absurd (omega (arith, sums, gap, after, low, high, multiple_above z n above)))
      (λ fine. fine);
}

-- the least goes over to an equivalent fact
pub IsLeastFrom-same : (from x : ℤ) (P Q : ℤ → Type 0) → ((y : ℤ) → P y ↔ Q y) → IsLeastFrom from Q x → IsLeastFrom from P x
IsLeastFrom-same from x P Q same l = record { at_or_after = l.at_or_after; holds = (same x).1 l.holds; least = λ y after h. l.least y after ((same y).0 h) }
