-- Why nothing is met up to the lowest bit that is set.
use Rattle.std.proofs.Common.{◌≡◌, ℕ, ◌+◌, ◌-◌, ◌*◌, ◌/◌, ◌%◌, ◌<◌, ◌^◌, ◌∙◌, ap, subst, arith, inl, inr, refl}
use Rattle.std.specs.Prelude.{◌≤◌, Option, List, Some, None, slice_index}
use Rattle.std.specs.Int.{bit_at}
use Rattle.std.proofs.Common.{Bor}
use Rattle.std.proofs.lemmas.Bool.{cases_lt}
use Rattle.std.proofs.lemmas.Nat.Bits.{bit_at-zero}
use Rattle.residue_solve.specs.ResidueMap.{map_bit, met_bit}
use Rattle.residue_solve.proofs.Bits.{rest_zero}
use Rattle.residue_solve.proofs.residue_map.unmet_from.Goals as goal

-- a clear bit i of word w, of which it is known that it tells of the residues of the word
in_word : (a : List ℕ) (b : Option (Bor (List ℕ))) (s w k word : ℕ) → ((i : ℕ) → i < 64 → bit_at word i ≡ 0 → met_bit a b s (64 * w + i) ≡ 0)
    → 64 * w ≤ k → k < 64 * w + 64 → bit_at word (k - 64 * w) ≡ 0 → met_bit a b s k ≡ 0
in_word a b s w k word h low high clear =
    let at : 64 * w + (k - 64 * w) ≡ k = omega (arith, low) in
    subst (λ (n : ℕ). met_bit a b s n ≡ 0) at (h (k - 64 * w) (omega (arith, low, high)) clear)

-- the bits of an empty word are clear, so no residue of it is met
clear : (a : List ℕ) (w k : ℕ) → slice_index a w ≡ 0 → 64 * w ≤ k → k < 64 * w + 64 → map_bit a k ≡ 0
clear a w k empty low high = let at : k / 64 ≡ w = omega (arith, low, high) in rw (at, empty) (bit_at-zero (k % 64))

unmet : (a : List ℕ) (b : Option (Bor (List ℕ))) (s k : ℕ) → map_bit a k ≡ 0 → met_bit a b s k ≡ 0
unmet a None s k none = none
unmet a (Some b) s k none = rw none (omega arith)

pub returns-then-rest-ne0-clause-unmet : goal.returns-then-rest-ne0-clause-unmet
returns-then-rest-ne0-clause-unmet c s i low high lt =
    let r = c.args.r in
    let w = r / 64 in
    let few = c.lower_of.ensures in
    let within : i < c.lower_of.result = omega (arith, lt, c.run_to.ensures.run) in
    let small : r % 64 + i < 64 = omega (arith, within, few.b) in
    let clear = rest_zero c.any_met.result r i _ refl (c.lowest.ensures.zeros i (omega (arith, within, few.a))) in
    let at : r % 64 + i ≡ (r + i) - 64 * w = omega arith in
    in_word c.args.a.now c.args.b s w (r + i) c.any_met.result (λ k. c.any_met.ensures s k low high) (omega arith) (omega (arith, small)) (subst (λ (n : ℕ). bit_at c.any_met.result n ≡ 0) at clear)

pub loop-w-init : goal.loop-w-init
loop-w-init c s i low high lt =
    let r = c.args.r in
    let w = r / 64 in
    let none : bit_at (c.any_met.result / 2 ^ (r % 64)) i ≡ 0 = ap (λ x. bit_at x i) c.if-rest-ne0.false ∙ bit_at-zero i in
    let clear = rest_zero c.any_met.result r i _ refl none in
    let at : r % 64 + i ≡ (r + i) - 64 * w = omega arith in
    in_word c.args.a.now c.args.b s w (r + i) c.any_met.result (λ k. c.any_met.ensures s k low high) (omega arith) (omega (arith, lt)) (subst (λ (n : ℕ). bit_at c.any_met.result n ≡ 0) at clear)

pub returns-then-word-ne0-clause-unmet : goal.returns-then-word-ne0-clause-unmet
returns-then-word-ne0-clause-unmet c s i low high lt =
    let k = c.args.r + i in
    let w = c.loop-w.w in
    elim (cases_lt k (64 * w)) [
      | inl below ↦ c.loop-w.invariant s i low high below
      | inr late ↦
          let end = c.run_to-then-word-ne0.ensures.run in
          let zeros = c.lowest-then-word-ne0.ensures in
          in_word c.args.a.now c.args.b s w k c.any_met-word.result (λ j. c.any_met-word.ensures s j low high) late (omega (arith, lt, end, zeros.bound)) (zeros.zeros (k - 64 * w) (omega (arith, lt, end, late)))
    ]

pub loop-w-preserved : goal.loop-w-preserved
loop-w-preserved c s i low high lt =
    let k = c.args.r + i in
    let w = c.loop-w.w in
    elim (cases_lt k (64 * w)) [
      | inl below ↦ c.loop-w.invariant s i low high below
      | inr late ↦
          let clear = ap (λ x. bit_at x (k - 64 * w)) c.if-word-ne0.false ∙ bit_at-zero (k - 64 * w) in
          in_word c.args.a.now c.args.b s w k c.any_met-word.result (λ j. c.any_met-word.ensures s j low high) late (omega (arith, lt)) clear
    ]

pub loop-w-preserved-then-a-w-eq0 : goal.loop-w-preserved-then-a-w-eq0
loop-w-preserved-then-a-w-eq0 c s i low high lt =
    let k = c.args.r + i in
    let w = c.loop-w.w in
    elim (cases_lt k (64 * w)) [
      | inl below ↦ c.loop-w.invariant s i low high below
      | inr late ↦ unmet c.args.a.now c.args.b s k (clear c.args.a.now w k c.if-a-w-eq0.true late (omega (arith, lt)))
    ]
