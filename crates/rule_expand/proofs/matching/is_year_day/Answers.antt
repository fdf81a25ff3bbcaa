-- Why the places in the year are those of the day.
use Rattle.std.proofs.Common.{◌≡◌, ◌∙◌, arith, length}
use Rattle.std.proofs.lemmas.Bool.Decides.{nat_tests}
use Rattle.spec_series.specs.RuleSets.{year_day_matches}
use Rattle.rule_expand.proofs.Cycle.{empty_any}
use Rattle.rule_expand.proofs.MatchingDays.{year_days_are}
use Rattle.rule_expand.proofs.matching.is_year_day.Goals as goal

pub returns-then-is_empty : goal.returns-then-is_empty
returns-then-is_empty c =
    let none : length c.items.result.now ≡ 0 = grind (arith, nat_tests, c.is_empty.ensures, c.if-is_empty.true) in
    empty_any (year_day_matches c.args.at.day) c.args.rule.now.by_year_day (rw c.items.ensures at none)

pub returns : goal.returns
returns c =
    let f = c.around_in_year-around.ensures.first in
    let l = c.around_in_year-around.ensures.last in
    c.in_month_days.ensures ∙ year_days_are c.args.at.day c.around_in_year-around.result.before c.around_in_year-around.result.after c.args.rule.now.by_year_day f l
