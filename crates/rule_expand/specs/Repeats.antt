-- After how many days what a rule keeps comes again.
use Rattle.std.specs.Prelude.{ℕ, ◌==◌, ◌&&◌, ◌||◌, Bool, true, false}
use Rattle.std.specs.List.{list_all}
use Rattle.std.specs.Option.{is_none}
use Rattle.spec_series.specs.declared.by_part.Freq.{Freq}
use Rattle.spec_series.specs.declared.by_part.Freq.TheVariants.{Daily, Weekly, Monthly, Yearly}
use Rattle.spec_series.specs.declared.by_part.NDay.{NDay}
use Rattle.spec_series.specs.declared.rule.Rule.{Rule}
use Rattle.spec_series.specs.RuleLimits.{is_empty}

abbrev pub is_up_to_a_week : Freq → Bool
is_up_to_a_week Daily = true
is_up_to_a_week Weekly = true
is_up_to_a_week Monthly = false
is_up_to_a_week Yearly = false

-- an item of `byDay` that names its day of the week without a place
abbrev pub is_without_place : NDay → Bool
is_without_place d = is_none d.nth

-- a rule that looks at days of the week alone, and not at their places
abbrev pub repeats_weekly : Rule → Bool
repeats_weekly r = is_empty r.by_month_day && (is_empty r.by_month && (is_empty r.by_year_day && list_all is_without_place r.by_day))

-- a rule of periods up to a week that looks at days of the week alone, which then have no places
abbrev pub is_of_weekdays : Rule → Bool
is_of_weekdays r = is_up_to_a_week r.frequency && (is_empty r.by_month_day && (is_empty r.by_month && is_empty r.by_year_day))

-- what the rule keeps comes again after so many days: the 400 years of the calendar's cycle, or a week
abbrev pub repeats_after : Rule → ℕ → Bool
repeats_after r c = (c == 146097) || ((c == 7) && is_of_weekdays r)
