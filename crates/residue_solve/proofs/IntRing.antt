-- The ring of whole numbers: the laws of products that std lacks, and sets of laws for tactics.
use Rattle.std.proofs.Common.{◌≡◌, ℕ, zero, suc, ◌+◌, ◌*◌, ◌<◌, ◌/◌, ℤ, pos, negsuc, ◌+ℤ◌, ◌*ℤ◌, ◌≤ℤ◌, ◌<ℤ◌, arith, neg_ℤ, ap, sym, ◌∙◌}
use Rattle.std.proofs.Math.IntN.{*ℤ_comm, zero-*ℤ}
use Rattle.std.proofs.Math.Nat.{mul-div_cancel}
use borrow.Author.Differences.{up, down, same_out, same_in, Apart-out, lt_out, le_out, below_in, at_most_in, sum_is_lem, neg_is, product_is}

-- for `omega`: as std's `ints`, but a product is one unknown
pub ruleset sums = (same_out, same_in, Apart-out, lt_out, le_out, below_in, at_most_in, sum_is_lem, neg_is)

pub +ℤ-*ℤ : (a b c : ℤ) → (a +ℤ b) *ℤ c ≡ a *ℤ c +ℤ b *ℤ c
+ℤ-*ℤ a b c =
    omega (
      arith,
      sums,
      product_is (a +ℤ b) c,
      product_is a c,
      product_is b c,
      ap (λ x. x * up c) (sum_is_lem a b),
      ap (λ x. x * down c) (sum_is_lem a b),
    )

pub *ℤ-+ℤ : (a b c : ℤ) → a *ℤ (b +ℤ c) ≡ a *ℤ b +ℤ a *ℤ c
*ℤ-+ℤ a b c = *ℤ_comm a (b +ℤ c) ∙ +ℤ-*ℤ b c a ∙ omega (arith, sums, *ℤ_comm a b, *ℤ_comm a c)

pub neg_ℤ-*ℤ : (a b : ℤ) → neg_ℤ a *ℤ b ≡ neg_ℤ (a *ℤ b)
neg_ℤ-*ℤ a b =
    omega (
      arith,
      sums,
      product_is (neg_ℤ a) b,
      product_is a b,
      ap (λ x. x * up b) (neg_is a).0,
      ap (λ x. x * up b) (neg_is a).1,
      ap (λ x. x * down b) (neg_is a).0,
      ap (λ x. x * down b) (neg_is a).1,
    )

pub *ℤ-neg_ℤ : (a b : ℤ) → a *ℤ neg_ℤ b ≡ neg_ℤ (a *ℤ b)
*ℤ-neg_ℤ a b = *ℤ_comm a (neg_ℤ b) ∙ neg_ℤ-*ℤ b a ∙ ap neg_ℤ (*ℤ_comm b a)

pub *ℤ_assoc : (a b c : ℤ) → (a *ℤ b) *ℤ c ≡ a *ℤ (b *ℤ c)
*ℤ_assoc a b c =
    let p = product_is a b in
    let q = product_is b c in
    omega (
      arith,
      sums,
      product_is (a *ℤ b) c,
      product_is a (b *ℤ c),
      ap (λ x. x * up c) p.0,
      ap (λ x. x * down c) p.0,
      ap (λ x. x * up c) p.1,
      ap (λ x. x * down c) p.1,
      ap (λ x. up a * x) q.0,
      ap (λ x. down a * x) q.0,
      ap (λ x. up a * x) q.1,
      ap (λ x. down a * x) q.1,
    )

pub *ℤ_swap : (a b c : ℤ) → a *ℤ (b *ℤ c) ≡ b *ℤ (a *ℤ c)
*ℤ_swap a b c = sym (*ℤ_assoc a b c) ∙ ap (λ x. x *ℤ c) (*ℤ_comm a b) ∙ *ℤ_assoc b a c

-- for `simp`: products are written out, and the factors of each stand in one order
pub ruleset products = (+ℤ-*ℤ, *ℤ-+ℤ, neg_ℤ-*ℤ, *ℤ-neg_ℤ, *ℤ_assoc, *ℤ_swap, *ℤ_comm)

-- a positive factor cancels
pub *ℤ_cancel : (x y : ℤ) (g : ℕ) → 0 < g → x *ℤ pos g ≡ y *ℤ pos g → x ≡ y
*ℤ_cancel x y g h e =
    let p = product_is x (pos g) in
    let q = product_is y (pos g) in
    let s : (up x + down y) * g ≡ (up y + down x) * g = omega (arith, sums, e, p, q) in
    let t : up x + down y ≡ up y + down x = sym (mul-div_cancel (up x + down y) h) ∙ ap (λ z. z / g) s ∙ mul-div_cancel (up y + down x) h in
    omega (arith, sums, t)

-- a multiple of n above 0 is n at least
pub multiple_above : (z : ℤ) (n : ℕ) → pos 0 <ℤ (z *ℤ pos n) → pos n ≤ℤ (z *ℤ pos n)
multiple_above (pos zero) n h = absurd (omega (arith, sums, zero-*ℤ (pos n)))
multiple_above (pos (suc m)) n h = omega (arith, sums, product_is (pos (suc m)) (pos n))
multiple_above (negsuc m) n h = absurd (omega (arith, sums, product_is (negsuc m) (pos n)))
