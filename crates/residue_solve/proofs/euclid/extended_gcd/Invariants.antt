-- Two remainders of the algorithm, and the multipliers whose products with a leave them.
use Rattle.std.proofs.Common.{◌<◌, ◌≤◌, ℕ, pos, ◌*ℤ◌}
use Rattle.std.specs.Int.{IsGcd}
use Rattle.residue_solve.specs.Congruence.{Congruent}
use Rattle.residue_solve.proofs.euclid.extended_gcd.Given as goal

abbrev pub invariant-loop-rest : goal.invariant-loop-rest
invariant-loop-rest l = record {
  gcd_above : 0 < l.gcd;
  gcd_small : l.gcd ≤ l.fn.n;
  rest_small : l.rest ≤ l.fn.n;
  multiplier_small : l.multiplier ≤ l.fn.n;
  next_small : l.next ≤ l.fn.n;
  multiplier_leaves : Congruent (pos l.fn.n) (pos l.fn.a *ℤ pos l.multiplier) (pos l.gcd);
  next_leaves : Congruent (pos l.fn.n) (pos l.fn.a *ℤ pos l.next) (pos l.rest);
  same_divisor : (g : ℕ) → IsGcd l.gcd l.rest g → IsGcd l.fn.n l.fn.a g;
}

abbrev pub decreases-loop-rest : goal.decreases-loop-rest
decreases-loop-rest l = l.rest
