-- The days of the years 0 to 9999 are near.
use Rattle.std.proofs.Common.{◌≡◌, ◌<◌, ◌≤ℤ◌, ◌^◌, ℤ, pos, negsuc, true, int_le, unsigned_abs, arith}
use Rattle.std.proofs.lemmas.Bool.{and_parts}
use Rattle.jiff_core.proofs.SignedLemmas.{signed_arith}
use Rattle.spec_time.specs.Walls.{day_of_wall, is_in_years}

near_size : (n : ℤ) → negsuc 719527 ≤ℤ n → n ≤ℤ pos 2932896 → unsigned_abs n < 2 ^ 41
near_size (pos k) low high = omega (arith, signed_arith)
near_size (negsuc k) low high = omega (arith, signed_arith)

pub day_is_near : (w : ℤ) → is_in_years w ≡ true → unsigned_abs (day_of_wall w) < 2 ^ 41
day_is_near w h =
    let p = and_parts (int_le (negsuc 62167219199) w) (int_le w (pos 253402300799)) h in
    near_size (day_of_wall w) (omega (arith, signed_arith, p.0)) (omega (arith, signed_arith, p.1))
