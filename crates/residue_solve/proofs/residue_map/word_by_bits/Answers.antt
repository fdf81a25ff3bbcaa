use Rattle.std.proofs.Common.{◌≡◌, ℕ, ◌+◌, ◌*◌, ◌∙◌, sym, arith, eqb-true}
use Rattle.std.specs.Prelude.{◌/◌, ◌%◌, slice_index}
use Rattle.residue_solve.specs.ResidueMap.{map_bit, shifted}
use Rattle.residue_solve.proofs.Bits.{set_low, set_high, clear_low, one_bit, not_one}
use Rattle.residue_solve.proofs.residue_map.word_by_bits.Goals as goal
use Rattle.residue_solve.proofs.residue_map.word_by_bits.Goals.{then-has_bit, else-has_bit}

pub loop-i-preserved : goal.loop-i-preserved
loop-i-preserved c =
    let words = c.args.words.now in
    let f : ℕ → ℕ = λ k. map_bit words (shifted (64 * c.args.w + k) c.args.s) in
    let i = c.loop-i.i in
    let r = shifted (64 * c.args.w + i) c.args.s in
    let inv = c.loop-i.invariant in
    let is = rw c.shifted_at.ensures.value at c.has_bit.ensures in
    elim c.if-has_bit.branch [
      | then-has_bit w ↦
          let one : f i ≡ 1 = eqb-true (map_bit words r) 1 (sym is ∙ w.if-has_bit.true) in
          record {
            low = λ k lt. rw w.word-is (set_low f c.loop-i.word _ i (one_bit i (omega arith)) inv.low inv.high one k lt);
            high = λ k le. rw w.word-is (set_high c.loop-i.word _ i (one_bit i (omega arith)) inv.high k le);
          }
      | else-has_bit w ↦
          let none : f i ≡ 0 = not_one (slice_index words (r / 64)) (r % 64) (sym is ∙ w.if-has_bit.false) in
          record {
            low = λ k lt. rw w.word-is (clear_low f c.loop-i.word i inv.low inv.high none k lt);
            high = λ k le. rw w.word-is (inv.high k (omega (arith, le)));
          }
    ]
