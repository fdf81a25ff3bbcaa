use Rattle.std.specs.Prelude.{◌≡◌, ℕ, ◌+◌, ◌*◌, ◌<◌, ◌≤◌}
use Rattle.std.specs.Int.{bit_at}
use Rattle.residue_solve.specs.ResidueMap.{map_bit, shifted}
use Rattle.residue_solve.proofs.residue_map.word_by_bits.Given as goal

abbrev pub invariant-loop-i : goal.invariant-loop-i
invariant-loop-i l = record {
  low : (k : ℕ) → k < l.i → bit_at l.word k ≡ map_bit l.words (shifted (64 * l.w + k) l.s);
  high : (k : ℕ) → l.i ≤ k → bit_at l.word k ≡ 0;
}
