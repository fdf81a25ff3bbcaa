-- The solutions of one congruence.
use Rattle.std.proofs.Common.{◌≡◌, ℕ, suc, ◌*◌, ◌<◌, ◌/◌, ◌%◌, ℤ, pos, negsuc, ◌+ℤ◌, ◌*ℤ◌, ◌↔◌, arith, neg_ℤ, ap, sym, ◌∙◌}
use Rattle.std.proofs.Math.IntN.{pos-*ℤ-negsuc}
use Rattle.std.proofs.Math.Nat.{zero-mod, div-add-mod', div-mul_cancel, dvd-mul_right, mod-eq-zero_of_dvd}
use borrow.Author.Differences.{up, neg_is}
use Rattle.residue_solve.proofs.IntRing.{sums, products, *ℤ_cancel}
use Rattle.residue_solve.proofs.CongruenceLemmas.{Congruent-sym, Congruent-trans, Congruent-rem}
use Rattle.residue_solve.specs.Congruence.{Congruent}
use Rattle.residue_solve.specs.declared.congruence.Cong.{Cong}
use Rattle.residue_solve.specs.Cong.{Solves}
use Rattle.residue_solve.specs.Euclid.{IsBezout}

-- a whole multiple of g leaves no remainder
multiple : (b g : ℕ) (z : ℤ) → pos b ≡ pos g *ℤ z → b % g ≡ 0
multiple b g (pos z) e = let f : b ≡ g * z = ap up e in rw f (mod-eq-zero_of_dvd g (dvd-mul_right g z))
multiple b g (negsuc z) e =
    let f : b ≡ 0 = ap up (e ∙ pos-*ℤ-negsuc g z) ∙ (neg_is (pos (g * suc z))).0 in
    rw f (zero-mod g)

-- agreeing factors and sides have the same solutions
same_solutions : (n a a' b b' q : ℤ) → Congruent n a a' → Congruent n b b' → Congruent n (a *ℤ q) b → Congruent n (a' *ℤ q) b'
same_solutions n a a' b b' q ea eb h = (
  eb.0 +ℤ h.0 +ℤ neg_ℤ (ea.0 *ℤ q),
  simp products (omega (arith, sums, simp products at h.1, simp products at eb.1, simp products at (ap (λ x. x *ℤ q) ea.1))),
)

-- g divides a and n
module _ (a n q a' n' : ℤ) (g : ℕ) (a_is : a ≡ a' *ℤ pos g) (n_is : n ≡ n' *ℤ pos g) where
  -- where there is a solution, it divides b
  divides : (b : ℕ) → Congruent n (a *ℤ q) (pos b) → b % g ≡ 0
  divides b h = multiple b g (a' *ℤ q +ℤ neg_ℤ (h.0 *ℤ n')) (simp products (omega (arith, sums, simp (a_is, n_is, products) at h.1)))

  -- where it divides b, and a * m leaves it, the solutions are what agrees with b / g * m modulo n / g
  module _ (b b' m : ℤ) (b_is : b ≡ b' *ℤ pos g) (leaves : Congruent n (a *ℤ m) (pos g)) where
    solves : Congruent n' q (b' *ℤ m) → Congruent n (a *ℤ q) b
    solves h = (
      b' *ℤ leaves.0 +ℤ h.0 *ℤ a',
      simp (a_is, b_is, n_is, products)
          (omega (arith, sums, simp (a_is, products) at (ap (λ x. a *ℤ x) h.1), simp (a_is, n_is, products) at (ap (λ x. b' *ℤ x) leaves.1))),
    )

    only : 0 < g → Congruent n (a *ℤ q) b → Congruent n' q (b' *ℤ m)
    only some h =
        let k = m *ℤ h.0 +ℤ neg_ℤ (leaves.0 *ℤ q) in (
          k,
          *ℤ_cancel q (b' *ℤ m +ℤ k *ℤ n') g some
              (simp products (omega (arith, sums, simp (a_is, n_is, products) at (ap (λ x. q *ℤ x) leaves.1), simp (a_is, b_is, n_is, products) at (ap (λ x. m *ℤ x) h.1)))),
        )

module _ (c : Cong) (a b g m : ℕ) (some : 0 < g) (ea : Congruent (pos c.n) c.a (pos a)) (eb : Congruent (pos c.n) c.b (pos b)) (z : IsBezout a c.n g m) (q : ℤ) where
  a_is : pos a ≡ pos (a / g) *ℤ pos g
  a_is = ap pos (sym (div-mul_cancel g z.greatest.1))

  n_is : pos c.n ≡ pos (c.n / g) *ℤ pos g
  n_is = ap pos (sym (div-mul_cancel g z.greatest.0))

  -- where g does not divide b, nothing solves
  pub no_solution : (b % g ≡ 0 → ⊥) → Solves c q → ⊥
  no_solution odd h = odd (divides (pos a) (pos c.n) q (pos (a / g)) (pos (c.n / g)) g a_is n_is b (same_solutions (pos c.n) c.a (pos a) c.b (pos b) q ea eb h))

  -- where it does, the solutions are a class
  pub class_of_solutions : b % g ≡ 0 → Solves c q ↔ Congruent (pos (c.n / g)) q (pos ((b / g * m) % (c.n / g)))
  class_of_solutions even =
      let n = pos c.n in
      let n' = pos (c.n / g) in
      let b_is : pos b ≡ pos (b / g) *ℤ pos g = ap pos (omega (arith, div-add-mod' b g)) in
      let rem = Congruent-rem (b / g * m) (c.n / g) in (
        (λ h.
            Congruent-trans n' q (pos (b / g * m)) (pos ((b / g * m) % (c.n / g)))
            (only (pos a) n q (pos (a / g)) n' g a_is n_is (pos b) (pos (b / g)) (pos m) b_is z.leaves some
            (same_solutions n c.a (pos a) c.b (pos b) q ea eb h)) rem),
        (λ h.
            same_solutions n (pos a) c.a (pos b) c.b q (Congruent-sym n c.a (pos a) ea) (Congruent-sym n c.b (pos b) eb)
            (solves (pos a) n q (pos (a / g)) n' g a_is n_is (pos b) (pos (b / g)) (pos m) b_is z.leaves
            (Congruent-trans n' q (pos ((b / g * m) % (c.n / g))) (pos (b / g * m)) h (Congruent-sym n' (pos (b / g * m)) (pos ((b / g * m) % (c.n / g))) rem)))),
      )
