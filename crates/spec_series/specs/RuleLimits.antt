-- The values that the members of a recurrence rule may have (RFC 8984 section 4.3.3, and the limits of this project).
use Rattle.std.specs.Prelude.{ℕ, ◌&&◌, ◌||◌, ◌==◌, Bool, true, false, not, nat_le, nat_lt, length, ℤ, unsigned_abs, pos, int_le, List, Option, Some, None}
use Rattle.std.specs.List.{list_all}
use Rattle.spec_series.specs.declared.by_part.Freq.{Freq}
use Rattle.spec_series.specs.declared.by_part.Freq.TheVariants.{Daily, Weekly, Monthly, Yearly}
use Rattle.spec_series.specs.declared.by_part.Skip.{Skip}
use Rattle.spec_series.specs.declared.by_part.Skip.TheVariants.{Omit}
use Rattle.spec_series.specs.declared.by_part.End.{End}
use Rattle.spec_series.specs.declared.by_part.End.TheVariants.{Never, Count, Until}
use Rattle.spec_series.specs.declared.by_part.NDay.{NDay}
use Rattle.spec_time.specs.Walls.{is_in_years}

-- a place from 1 to `most`, or from -1 to minus that
abbrev pub is_place_to : ℕ → ℤ → Bool
is_place_to most k = nat_le 1 (unsigned_abs k) && nat_le (unsigned_abs k) most

-- a place of a day of the week stands only where a period is a month or a year
abbrev pub is_nth : Freq → Option ℤ → Bool
is_nth f None = true
is_nth Daily (Some k) = false
is_nth Weekly (Some k) = false
is_nth Monthly (Some k) = is_place_to 53 k
is_nth Yearly (Some k) = is_place_to 53 k

abbrev pub is_nday : Freq → NDay → Bool
is_nday f d = nat_lt d.day 7 && is_nth f d.nth

abbrev pub is_month : ℤ → Bool
is_month m = int_le (pos 1) m && int_le m (pos 12)

abbrev pub are_by_parts : Freq → List NDay → List ℤ → List ℤ → List ℤ → Bool
are_by_parts f by_day by_month_day by_month by_set =
    list_all (is_nday f) by_day && (list_all (is_place_to 31) by_month_day && (list_all is_month by_month && list_all (is_place_to 366) by_set))

abbrev pub is_empty : {X : Type 0} → List X → Bool
is_empty xs = length xs == 0

abbrev pub has_months : Freq → Bool
has_months Daily = false
has_months Weekly = false
has_months Monthly = true
has_months Yearly = true

abbrev pub has_years : Freq → Bool
has_years Daily = false
has_years Weekly = false
has_years Monthly = false
has_years Yearly = true

-- days of the year stand only where a period is a year
abbrev pub are_year_days : Freq → List ℤ → Bool
are_year_days f by_year_day = (is_empty by_year_day || has_years f) && list_all (is_place_to 366) by_year_day

-- dates are moved only where they are days of the month alone
abbrev pub is_skip : Skip → Freq → List NDay → List ℤ → List ℤ → List ℤ → Bool
is_skip Omit f by_day by_month_day by_year_day by_set = true
is_skip s f by_day by_month_day by_year_day by_set =
    has_months f && (not (is_empty by_month_day) && (is_empty by_day && (is_empty by_year_day && is_empty by_set)))

abbrev pub is_end : End → Bool
is_end Never = true
is_end (Count c) = nat_le 1 c && nat_le c 1000
is_end (Until w) = is_in_years w
