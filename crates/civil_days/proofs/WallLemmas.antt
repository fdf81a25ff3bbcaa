-- A wall second is one of its day's 86400 seconds.
use Rattle.std.proofs.Common.{◌≡◌, ◌<◌, ℤ, arith}
use Rattle.jiff_core.proofs.SignedLemmas.{signed_arith}
use Rattle.spec_time.specs.Walls.{day_of_wall, second_of_wall, wall_at}

pub second_small : (w : ℤ) → second_of_wall w < 86400
second_small w = omega (arith, signed_arith)

pub wall_parts : (w : ℤ) → wall_at (day_of_wall w) (second_of_wall w) ≡ w
wall_parts w = omega (arith, signed_arith)
