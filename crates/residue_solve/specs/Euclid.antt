-- What Euclid's algorithm gives.
use Rattle.std.specs.Prelude.{ℕ, ◌≤◌, pos, ◌*ℤ◌}
use Rattle.std.specs.Int.{IsGcd}
use Rattle.residue_solve.specs.Congruence.{Congruent}

-- gcd is the greatest common divisor of a and n, and a * multiplier leaves it modulo n
pub record IsBezout (a n gcd multiplier : ℕ) : Type 0 where
  pub greatest : IsGcd n a gcd
  pub leaves : Congruent (pos n) (pos a *ℤ pos multiplier) (pos gcd)
  pub small : multiplier ≤ n
