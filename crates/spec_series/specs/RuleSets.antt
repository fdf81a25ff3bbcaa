-- The days of a recurrence rule (RFC 8984 section 4.3.3, in the profile of this project: the Gregorian calendar, rules give
-- days alone, and dates that there aren't are left out or moved to a day beside them).
use Rattle.std.specs.Prelude.{ℕ, ◌+◌, ◌-◌, Bool, true, false, ◌&&◌, ◌||◌, ◌==◌, nat_le, if◌then◌else◌, ℤ, pos, ◌+ℤ◌, ◌-ℤ◌, int_le, int_lt, Option, Some, None, List, [], ◌∷◌}
use Rattle.std.specs.List.{list_any}
use Rattle.std.specs.Ordering.{int_eq}
use Rattle.spec_time.specs.CivilDay.{month_length, weekday_of, year_of, month_of, day_of_month}
use Rattle.spec_series.specs.declared.by_part.Freq.{Freq}
use Rattle.spec_series.specs.declared.by_part.Freq.TheVariants.{Monthly}
use Rattle.spec_series.specs.declared.by_part.Skip.{Skip}
use Rattle.spec_series.specs.declared.by_part.Skip.TheVariants.{Omit, Backward, Forward}
use Rattle.spec_series.specs.declared.by_part.End.{End}
use Rattle.spec_series.specs.declared.by_part.End.TheVariants.{Never, Count, Until}
use Rattle.spec_series.specs.declared.by_part.NDay.{NDay}
use Rattle.spec_series.specs.declared.rule.Rule.{Rule}
use Rattle.spec_time.specs.Walls.{day_of_wall, second_of_wall, wall_at}
use Rattle.spec_series.specs.Places.{at_least_zero, count_from, empty_or_any, is_place}
use Rattle.spec_series.specs.Periods.{month_first, month_last, year_first, year_last, period_first, period_last, is_in_phase}

-- whether days of the week are counted within the month, and not within the year
abbrev pub counts_in_month : Freq → List ℤ → Bool
counts_in_month Monthly by_month = true
counts_in_month f [] = false
counts_in_month f (m ∷ ms) = true

-- the first and the last day of that month or year
abbrev pub scope_first : Bool → ℤ → ℤ
scope_first in_month n = if in_month then month_first n else year_first n

abbrev pub scope_last : Bool → ℤ → ℤ
scope_last in_month n = if in_month then month_last n else year_last n

-- the day has this name in the week
abbrev pub is_weekday : ℕ → ℤ → Bool
is_weekday d n = weekday_of n == d

-- `nthOfPeriod`: the place of the day among those of its name
unfoldable pub nth_matches : Bool → ℤ → ℕ → Option ℤ → Bool
nth_matches in_month n d None = true
nth_matches in_month n d (Some k) =
    is_place (count_from (is_weekday d) (scope_first in_month n) n) (count_from (is_weekday d) n (scope_last in_month n)) k

unfoldable pub nday_matches : Bool → ℤ → NDay → Bool
nday_matches in_month n d = is_weekday d.day n && nth_matches in_month n d.day d.nth

-- `byMonthDay`: the day of the month, or the place from the month's end
unfoldable pub month_day_matches : ℤ → ℤ → Bool
month_day_matches n k = is_place (day_of_month n) (month_length (year_of n) (month_of n) + 1 - day_of_month n) k

unfoldable pub month_matches : ℤ → ℤ → Bool
month_matches n k = int_eq k (pos (month_of n))

-- `byYearDay`: the day of the year, or the place from the year's end
unfoldable pub year_day_matches : ℤ → ℤ → Bool
year_day_matches n k = is_place (at_least_zero (n -ℤ year_first n +ℤ pos 1)) (at_least_zero (year_last n -ℤ n +ℤ pos 1)) k

-- a day matches where each part that isn't empty has an item that matches it
unfoldable pub day_matches : Rule → ℤ → Bool
day_matches r n =
    empty_or_any (nday_matches (counts_in_month r.frequency r.by_month) n) r.by_day
    && (empty_or_any (month_day_matches n) r.by_month_day && (empty_or_any (month_matches n) r.by_month && empty_or_any (year_day_matches n) r.by_year_day))

-- of the matching days of a period those are kept that stand at a place of `bySetPosition`
unfoldable pub is_kept : Rule → ℤ → Bool
is_kept r n =
    day_matches r n
    && empty_or_any (is_place
    (count_from (day_matches r) (period_first r.frequency r.week_start n) n)
    (count_from (day_matches r) n (period_last r.frequency r.week_start n))) r.by_set

abbrev pub moves : Skip → Bool
moves Omit = false
moves Backward = true
moves Forward = true

-- a day of the month that the month of day n hasn't
abbrev pub is_beyond_month : ℤ → ℤ → Bool
is_beyond_month n k = int_lt (pos (month_length (year_of n) (month_of n))) k

-- the last day of a month that overflows, whatever its phase: one of the rule's months, which hasn't all days that are asked for
unfoldable pub is_overflow : Rule → ℤ → Bool
is_overflow r n =
    int_eq n (month_last n) && (empty_or_any (month_matches n) r.by_month && list_any (is_beyond_month n) r.by_month_day)

-- the day that tells whether a day is moved, and is to be in phase: the day itself, or for the first of a month the last before it
unfoldable pub moved_from : Skip → ℤ → ℤ
moved_from Omit n = n
moved_from Backward n = n
moved_from Forward n = n -ℤ pos 1

-- what `skip` moves comes to the last day of a month that overflows, or to the first day after it
unfoldable pub is_moved : Rule → ℤ → Bool
is_moved r n = moves r.skip && is_overflow r (moved_from r.skip n)

-- the days that a rule keeps in its own periods
abbrev pub is_native : Rule → ℤ → ℤ → Bool
is_native r start_day n = is_kept r n && is_in_phase r start_day n

-- on these days the rule repeats what starts on `start_day`: those that it keeps, and those to which it moves
unfoldable pub is_due : Rule → ℤ → ℤ → Bool
is_due r start_day n = is_native r start_day n || (is_moved r n && is_in_phase r start_day (moved_from r.skip n))

-- From here on over any test of the days that are due. The start's day always counts.

-- the wall second isn't past `until`
abbrev pub is_by_end : End → ℤ → Bool
is_by_end (Until u) w = int_le w u
is_by_end Never w = true
is_by_end (Count c) w = true

-- a day that counts: the start's, or a later one that is due and not past `until` at the start's time of day
unfoldable pub is_counted : (ℤ → Bool) → End → ℕ → ℤ → ℤ → Bool
is_counted due end time start_day n =
    int_eq n start_day || (int_lt start_day n && (due n && is_by_end end (wall_at n time)))

-- `count`: at most so many days
abbrev pub is_within_count : End → ℕ → Bool
is_within_count (Count c) n = nat_le n c
is_within_count Never n = true
is_within_count (Until u) n = true

-- a day of the set: it counts, and of the days up to it no more count than `count` allows
unfoldable pub is_day_of_set : (ℤ → Bool) → End → ℕ → ℤ → ℤ → Bool
is_day_of_set due end time start_day n =
    is_counted due end time start_day n && is_within_count end (count_from (is_counted due end time start_day) start_day n)

-- a day of the rule's set, for a series that starts at this wall second
unfoldable pub is_in_set : Rule → ℤ → ℤ → Bool
is_in_set r start n = is_day_of_set (is_due r (day_of_wall start)) r.end (second_of_wall start) (day_of_wall start) n
