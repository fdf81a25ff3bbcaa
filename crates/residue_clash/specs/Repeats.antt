-- How many periods come again with what a rule keeps, and the last day of a bound.
use Rattle.std.specs.Prelude.{ℕ, ◌==◌, ℤ, Option, Some, None, if◌then◌else◌}
use Rattle.spec_series.specs.declared.by_part.Freq.{Freq}
use Rattle.spec_series.specs.declared.by_part.Freq.TheVariants.{Daily, Weekly, Monthly, Yearly}
use Rattle.rule_expand.specs.Walk.{periods}
use Rattle.rule_expand.specs.declared.bound.Bound.{Bound}
use Rattle.rule_expand.specs.declared.bound.Bound.TheVariants.{Endless, Last}

abbrev pub periods_of_week : Freq → ℕ
periods_of_week Daily = 7
periods_of_week Weekly = 1
periods_of_week Monthly = 0
periods_of_week Yearly = 0

-- the periods of so many days
abbrev pub periods_after : Freq → ℕ → ℕ
periods_after f c = if c == 7 then periods_of_week f else periods f

-- the last day of a bound, if it has one
abbrev pub limit_of : Bound → Option ℤ
limit_of Endless = None
limit_of (Last last) = Some last
