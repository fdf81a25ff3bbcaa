-- Why the days of one week tell those of all.
use Rattle.std.proofs.Common.{FitsSigned, w64, rules}
use Rattle.std.proofs.lemmas.Int.{to_z-of_z}
use Rattle.spec_series.specs.RuleSets.{day_matches}
use Rattle.rule_expand.proofs.Again.{weekly_matches}
use Rattle.rule_expand.proofs.Weeks.{by_weeks}
use Rattle.rule_expand.proofs.occurs.count_by_weeks.Goals as goal

pub returns-clause-value : goal.returns-clause-value
returns-clause-value c =
    let f : FitsSigned w64 c.args.first = search rules in
    let week = simp to_z-of_z at c.count_one_by_one-week.ensures.value in
    let rest = simp to_z-of_z at c.count_one_by_one-rest.ensures.value in
    rw (week, rest) (by_weeks (day_matches c.args.rule.now) (weekly_matches c.args.rule.now c.requires.weekly) c.args.first c.args.count)
