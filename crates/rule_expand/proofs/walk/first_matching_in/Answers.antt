-- Why the first matching day of a period is the first that is kept.
use Rattle.std.proofs.Common.{FitsSigned, w64, rules}
use Rattle.std.proofs.lemmas.Int.{to_z-of_z}
use Rattle.rule_expand.proofs.MatchingDays.{kept_plain, plain_kept, some_plain, plain_none}
use Rattle.spec_series.specs.RuleSets.{day_matches, is_kept}
use Rattle.rule_expand.proofs.walk.first_matching_in.Goals as goal

pub returns-clause-some : goal.returns-clause-some
returns-clause-some c =
    let n : FitsSigned w64 c.args.number = c.ranges.number in
    let a : FitsSigned w64 c.args.after = c.ranges.after in
    let d : FitsSigned w64 c.first_day-day.result = search rules in
    let first = simp to_z-of_z at c.first_day-day.ensures in
    let last = simp to_z-of_z at c.in_period-length.ensures.last in
    let found = simp to_z-of_z at c.first_plain.ensures.some in
    some_plain c.args.rule.now (day_matches c.args.rule.now) (is_kept c.args.rule.now) (λ n h. kept_plain c.args.rule.now n c.requires.plain h) (λ n h. plain_kept c.args.rule.now n c.requires.plain h) c.args.after c.args.number c.first_day-day.result c.in_period-length.result.after first last c.first_plain.result found

pub returns-clause-none : goal.returns-clause-none
returns-clause-none c =
    let n : FitsSigned w64 c.args.number = c.ranges.number in
    let a : FitsSigned w64 c.args.after = c.ranges.after in
    let d : FitsSigned w64 c.first_day-day.result = search rules in
    let first = simp to_z-of_z at c.first_day-day.ensures in
    let last = simp to_z-of_z at c.in_period-length.ensures.last in
    let none = simp to_z-of_z at c.first_plain.ensures.none in
    λ t. plain_none c.args.rule.now (day_matches c.args.rule.now) (is_kept c.args.rule.now) (λ n h. kept_plain c.args.rule.now n c.requires.plain h) c.args.after c.args.number c.first_day-day.result c.in_period-length.result.after first last (none t)
