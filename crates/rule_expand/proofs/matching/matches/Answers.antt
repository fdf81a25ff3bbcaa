-- Why the parts tell whether the day matches.
use Rattle.std.proofs.Common.{◌∙◌, sym}
use Rattle.spec_series.specs.RuleSets.{month_matches}
use Rattle.rule_expand.proofs.MatchingDays.{by_weekday, no_month, no_month_day, no_year_day}
use Rattle.rule_expand.proofs.matching.matches.Goals as goal

pub returns-then-not-in_months : goal.returns-then-not-in_months
unfolding month_matches
returns-then-not-in_months c =
    let e = rw c.args.at.month_is at c.in_months.ensures in
    no_month c.args.rule.now c.args.at.day (sym e ∙ c.if-not-in_months.true)

pub returns-then-not-is_month_day : goal.returns-then-not-is_month_day
returns-then-not-is_month_day c = no_month_day c.args.rule.now c.args.at.day (sym c.is_month_day.ensures ∙ c.if-not-is_month_day.true)

pub returns-then-not-is_year_day : goal.returns-then-not-is_year_day
returns-then-not-is_year_day c = no_year_day c.args.rule.now c.args.at.day (sym c.is_year_day.ensures ∙ c.if-not-is_year_day.true)

pub returns : goal.returns
unfolding month_matches
returns c =
    let e = rw c.args.at.month_is at c.in_months.ensures in
    by_weekday c.args.rule.now c.args.at.day c.is_weekday.result c.is_weekday.ensures (sym c.is_month_day.ensures ∙ c.if-not-is_month_day.false) (sym e ∙ c.if-not-in_months.false) (sym c.is_year_day.ensures ∙ c.if-not-is_year_day.false)
