-- The days of a rule by the members that its first edition had (RFC 8984 section 4.3.3): days of the week and of the month, and
-- months. What a month hasn't is left out.
use Rattle.std.specs.Prelude.{◌≡◌, Bool, ◌&&◌, ℤ, []}
use Rattle.spec_series.specs.declared.rule.Rule.{Rule}
use Rattle.spec_series.specs.declared.by_part.Skip.TheVariants.{Omit}
use Rattle.spec_series.specs.Periods.{period_first, period_last, is_in_phase}
use Rattle.spec_series.specs.Places.{count_from, empty_or_any, is_place}
use Rattle.spec_series.specs.RuleSets.{counts_in_month, nday_matches, month_day_matches, month_matches, is_day_of_set}
use Rattle.spec_time.specs.Walls.{day_of_wall, second_of_wall}

-- a day matches where each part that isn't empty has an item that matches it
unfoldable pub first_day_matches : Rule → ℤ → Bool
first_day_matches r n =
    empty_or_any (nday_matches (counts_in_month r.frequency r.by_month) n) r.by_day
    && (empty_or_any (month_day_matches n) r.by_month_day && empty_or_any (month_matches n) r.by_month)

-- of the days of a period that pass a test those are kept that stand at a place of `bySetPosition`
abbrev pub is_kept_of : Rule → (ℤ → Bool) → ℤ → Bool
is_kept_of r matches n =
    matches n
    && empty_or_any (is_place
    (count_from matches (period_first r.frequency r.week_start n) n)
    (count_from matches n (period_last r.frequency r.week_start n))) r.by_set

-- on these days the rule repeats what starts on `start_day`
unfoldable pub is_first_due : Rule → ℤ → ℤ → Bool
is_first_due r start_day n = is_kept_of r (first_day_matches r) n && is_in_phase r start_day n

-- a day of the rule's set, for a series that starts at this wall second
unfoldable pub is_in_first_set : Rule → ℤ → ℤ → Bool
is_in_first_set r start n = is_day_of_set (is_first_due r (day_of_wall start)) r.end (second_of_wall start) (day_of_wall start) n

-- a rule that says nothing of the second edition
pub record IsOfFirstEdition (r : Rule) : Type 0 where
  pub year_days : r.by_year_day ≡ []
  pub skip : r.skip ≡ Omit
