-- The numbers that solve two congruences.
use Rattle.std.proofs.Common.{◌≡◌, ◌<◌, ◌≤◌, ◌^◌, ℤ, unsigned_abs, mul-le-mul_left, ◌+ℤ◌, ◌-ℤ◌, ◌*ℤ◌, ◌↔◌, arith, ap, sym, subst, refl}
use Rattle.std.proofs.lemmas.Int.{unsigned_abs-mul}
use Rattle.residue_solve.proofs.IntRing.{sums, products}
use Rattle.residue_solve.specs.Congruence.{Congruent}

-- at q = r + k * m, the congruence on q is one on k
pub substituted_lem : (n a b r m k : ℤ) → Congruent n ((a *ℤ m) *ℤ k) (b -ℤ a *ℤ r) ↔ Congruent n (a *ℤ (r +ℤ k *ℤ m)) b
substituted_lem n a b r m k = (
  (λ h. (h.0, simp products (omega (arith, sums, simp products at h.1)))),
  (λ h. (h.0, simp products (omega (arith, sums, simp products at h.1)))),
)

-- what a congruence is multiplied by keeps it small
pub product_small : (a m : ℤ) → unsigned_abs a < 2 ^ 40 → unsigned_abs m ≤ 1000 → unsigned_abs (a *ℤ m) < 2 ^ 50
product_small a m ha hm = rw unsigned_abs-mul (omega (arith, mul-le-mul_left (unsigned_abs a) hm))

-- the numbers of which P holds are r1 + k * m1, and R says of k that Q holds of this number
module _ (P Q R : ℤ → Type 0) (r1 m1 : ℤ) (first : (q : ℤ) → P q ↔ Congruent m1 q r1) (same : (k : ℤ) → R k ↔ Q (r1 +ℤ k *ℤ m1)) where
  pub no_common_solution : ((k : ℤ) → R k → ⊥) → (q : ℤ) → P q × Q q → ⊥
  no_common_solution none q h =
      let on = (first q).0 h.0 in
      none on.0 ((same on.0).1 (subst Q on.1 h.1))

  pub class_of_common_solutions : (r2 m2 : ℤ) → ((k : ℤ) → R k ↔ Congruent m2 k r2) → (q : ℤ) → P q × Q q ↔ Congruent (m1 *ℤ m2) q (r1 +ℤ m1 *ℤ r2)
  class_of_common_solutions r2 m2 turns q = (
    (λ h.
        let on = (first q).0 h.0 in
        let g = (turns on.0).0 ((same on.0).1 (subst Q on.1 h.1)) in
        (g.0, simp products (omega (arith, sums, simp products at on.1, simp products at (ap (λ x. m1 *ℤ x) g.1))))),
    (λ h.
        let k = r2 +ℤ h.0 *ℤ m2 in
        let e : q ≡ r1 +ℤ k *ℤ m1 = simp products (omega (arith, sums, simp products at h.1)) in
        ((first q).1 (k, e), subst Q (sym e) ((same k).0 ((turns k).1 (h.0, refl))))),
  )
