use Rattle.std.specs.Prelude.{◌≡◌, ℕ, ◌-◌, ◌<◌, ◌≤◌, length}
use Rattle.residue_solve.specs.ResidueMap.{as_bit, map_bit}
use Rattle.residue_solve.proofs.residue_map.fill.Given as goal

abbrev pub invariant-loop-r : goal.invariant-loop-r
invariant-loop-r g l = record {
  length : length l.words ≡ 2283;
  done : (k : ℕ) → k < l.r → k < 146097 → map_bit l.words k ≡ as_bit (g.T.Residues.has l.days k);
  rest : (k : ℕ) → l.r ≤ k → k < 146097 → map_bit l.words k ≡ 0;
}

abbrev pub decreases-loop-r : goal.decreases-loop-r
decreases-loop-r g l = 146097 - l.r
