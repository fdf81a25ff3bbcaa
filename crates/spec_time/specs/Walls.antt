-- Wall seconds: seconds of local time from 1970-01-01T00:00:00, without a time zone (RFC 8984 section 1.4.5).
use Rattle.std.specs.Prelude.{ℕ, ℤ, pos, negsuc, int_le, ◌+ℤ◌, ◌*ℤ◌, ◌&&◌, Bool}
use Rattle.spec_time.specs.Floor.{floor_div, modulo}

-- the seconds of an hour
abbrev pub hour_seconds : ℕ
hour_seconds = 3600

-- the day of a wall second
abbrev pub day_of_wall : ℤ → ℤ
day_of_wall w = floor_div w 86400

-- the second of its day
abbrev pub second_of_wall : ℤ → ℕ
second_of_wall w = modulo w 86400

-- the wall second of a day and a second of the day
abbrev pub wall_at : ℤ → ℕ → ℤ
wall_at day second = day *ℤ pos 86400 +ℤ pos second

-- the wall second lies in the years 0 to 9999, those that a LocalDateTime can tell:
-- 0000-01-01T00:00:00 is -62167219200, and 9999-12-31T23:59:59 is 253402300799
abbrev pub is_in_years : ℤ → Bool
is_in_years w = int_le (negsuc 62167219199) w && int_le w (pos 253402300799)
