-- The instants of the wall seconds of a local clock (RFC 5545 section 3.3.5), by a POSIX rule whose offsets are those that `jiff` states.
use Rattle.std.specs.Prelude.{ℤ, pos, ◌-ℤ◌, ◌+ℤ◌, ◌*ℤ◌, not, int_lt, Option, Some, None, if◌then◌else◌}
use Rattle.std.specs.Int.{int_min}
use Rattle.spec_time.specs.CivilDay.{year_of}
use Rattle.spec_time.specs.Walls.{day_of_wall}
use Rattle.spec_events.specs.Values.{is_showing}
use Rattle.jiff_core.specs.Timestamp.{nanos_of_seconds}
use Rattle.jiff_tz.specs.declared.posix.Day.{Day}
use Rattle.jiff_tz.specs.PosixText.{TzText}
use Rattle.jiff_tz.specs.PosixRule.{match_some, clamp_to, nanos_per_day, first_nanosecond, last_nanosecond, rule_day, in_window, in_span, saturating_add, saturating_sub}

-- how often a clock shows a wall time, with the offsets from UTC, in seconds: once; twice, at the offset before the clock goes back and at
-- the one after it; or never, between the offset before the clock goes forward and the one after it
pub data ClockReading : Type 0 where
  Once : ℤ → ClockReading
  Twice : ℤ → ℤ → ClockReading
  Never : ℤ → ℤ → ClockReading

-- the nanosecond of wall time at which a day of the rule and a time on it fall in the year
unfoldable pub change_at : ℤ → Day × ℤ → ℤ
change_at y d = match_some (rule_day y d.0) (last_nanosecond y) (λ day.
    clamp_to (first_nanosecond y) (last_nanosecond y) (day *ℤ nanos_per_day +ℤ nanos_of_seconds d.1))

-- the nanoseconds by which the clock goes forward
abbrev pub advance : ℤ → ℤ → ℤ
advance std dst = nanos_of_seconds dst -ℤ nanos_of_seconds std

-- daylight saving time that is behind standard time, ahead of it, and either, with the nanoseconds of wall time at which it begins and ends
abbrev pub reading_behind : ℤ → ℤ → ℤ × ℤ → ℤ → ClockReading
reading_behind std dst w at =
    if in_window w at then Once dst
    else (if in_span (saturating_add w.0 (advance std dst)) w.0 at then Twice std dst
    else (if in_span w.1 (saturating_sub w.1 (advance std dst)) at then Never dst std
    else Once std))

abbrev pub reading_ahead : ℤ → ℤ → ℤ × ℤ → ℤ → ClockReading
reading_ahead std dst w at =
    if not (in_window w at) then Once std
    else (if in_span w.0 (saturating_add w.0 (advance std dst)) at then Never std dst
    else (if in_span (saturating_sub w.1 (advance std dst)) w.1 at then Twice dst std
    else Once dst))

abbrev pub reading_by : ℤ → ℤ → ℤ × ℤ → ℤ → ClockReading
reading_by std dst w at =
    if int_lt dst std then reading_behind std dst w at
    else (if int_lt std dst then reading_ahead std dst w at else Once std)

-- how a clock of this rule shows a nanosecond of wall time in the year
unfoldable pub reading_at : TzText → ℤ → ℤ → ClockReading
reading_at tz y at = match_some tz.dst (Once tz.std_seconds) (λ d.
    reading_by tz.std_seconds d.seconds (change_at y d.start, change_at y d.finish) at)

-- the one instant, the earlier of two, or what the offset before the gap gives
abbrev pub instant_of : ℤ → ClockReading → ℤ
instant_of w (Once a) = w -ℤ a
instant_of w (Twice a b) = int_min (w -ℤ a) (w -ℤ b)
instant_of w (Never a b) = w -ℤ a

-- the instant of a wall second, in seconds of UTC from 1970, and none outside the years 1 to 9998
unfoldable pub instant_in : TzText → ℤ → Option ℤ
instant_in tz w =
    if is_showing w then Some (instant_of w (reading_at tz (year_of (day_of_wall w)) (w *ℤ pos 1000000000))) else None
