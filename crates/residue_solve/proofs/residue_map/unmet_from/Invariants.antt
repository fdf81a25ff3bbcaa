use Rattle.std.specs.Prelude.{◌≡◌, ℕ, ◌+◌, ◌*◌, ◌<◌, ◌≤◌}
use Rattle.residue_solve.specs.ResidueMap.{met_bit}
use Rattle.residue_solve.proofs.residue_map.unmet_from.Given as goal

abbrev pub invariant-loop-w : goal.invariant-loop-w
invariant-loop-w l = (s i : ℕ) → l.low ≤ s → s < l.high → l.r + i < 64 * l.w → met_bit l.a l.b s (l.r + i) ≡ 0
