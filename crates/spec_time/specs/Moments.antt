-- Moments: seconds of UTC from 1970, from the first of that year to the last of the year 9998.
use Rattle.std.specs.Prelude.{ℤ, pos, ◌≤ℤ◌}
use Rattle.std.specs.Int.{int_min, int_max}
use Rattle.spec_time.specs.declared.moment.TheConstants.{LAST_MOMENT}

abbrev pub IsMoment : ℤ → Type 0
IsMoment z = (pos 0 ≤ℤ z) × (z ≤ℤ LAST_MOMENT)

-- the moment nearest to so many seconds
abbrev pub clamped : ℤ → ℤ
clamped z = int_max (pos 0) (int_min z LAST_MOMENT)
