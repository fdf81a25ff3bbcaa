-- Occurrences of at most a week, as those of what is booked.
use Rattle.std.specs.Prelude.{ℕ, ◌≤◌, ◌≡◌, Bool, true, nat_le, List, Option, Some, None}
use Rattle.std.specs.List.{list_all}
use Rattle.spec_series.specs.declared.exception.Exception.{Exception}
use Rattle.spec_series.specs.declared.exception.Span.{Span}
use Rattle.spec_series.specs.declared.series.Series.{Series}
use Rattle.spec_series.specs.SeriesLimits.{wall_seconds}

-- the wall seconds of 7 days, the most that an occurrence of a booking lasts
abbrev pub most_booked_seconds : ℕ
most_booked_seconds = 604800

abbrev pub is_week_long : Option Span → Bool
is_week_long None = true
is_week_long (Some s) = nat_le (wall_seconds s.length) most_booked_seconds

-- what replaces occurrences lasts at most 7 days
abbrev pub are_week_long : List Exception → Bool
are_week_long xs = list_all (λ x. is_week_long x.replaced) xs

-- no occurrence lasts longer than 7 days
pub record IsWeekLong (s : Series) : Type 0 where
  pub own : wall_seconds s.length ≤ most_booked_seconds
  pub replaced : are_week_long s.exceptions ≡ true
