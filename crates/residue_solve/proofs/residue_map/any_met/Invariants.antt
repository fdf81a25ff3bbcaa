use Rattle.std.specs.Prelude.{◌≡◌, ℕ, ◌+◌, ◌*◌, ◌<◌, ◌≤◌}
use Rattle.std.specs.Int.{bit_at}
use Rattle.residue_solve.specs.ResidueMap.{met_bit}
use Rattle.residue_solve.proofs.residue_map.any_met.Given as goal

abbrev pub invariant-loop-s : goal.invariant-loop-s
invariant-loop-s l = (t i : ℕ) → l.low ≤ t → t < l.s → i < 64 → bit_at l.found i ≡ 0 → met_bit l.a l.b t (64 * l.w + i) ≡ 0
