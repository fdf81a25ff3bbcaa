-- Why the first last day of an overflowing month in the period is found.
use Rattle.std.proofs.Common.{FitsSigned, w64, rules}
use Rattle.std.proofs.lemmas.Int.{to_z-of_z}
use Rattle.rule_expand.proofs.MatchingDays.{some_plain, plain_none}
use Rattle.rule_expand.proofs.Overflow.{near_plain}
use Rattle.spec_series.specs.RuleSets.{is_overflow}
use Rattle.rule_expand.proofs.walk.overflow_in.Goals as goal

pub returns-clause-some : goal.returns-clause-some
returns-clause-some c =
    let n : FitsSigned w64 c.args.number = c.ranges.number in
    let a : FitsSigned w64 c.args.after = c.ranges.after in
    let d : FitsSigned w64 c.first_day-day.result = search rules in
    let first = simp to_z-of_z at c.first_day-day.ensures in
    let last = simp to_z-of_z at c.in_period-length.ensures.last in
    let found = simp to_z-of_z at c.first_overflow_in.ensures.some in
    some_plain c.args.rule.now (is_overflow c.args.rule.now) (is_overflow c.args.rule.now) (λ n h. h) (λ n h. h) c.args.after c.args.number c.first_day-day.result c.in_period-length.result.after first last c.first_overflow_in.result found

pub returns-clause-none : goal.returns-clause-none
returns-clause-none c =
    let n : FitsSigned w64 c.args.number = c.ranges.number in
    let a : FitsSigned w64 c.args.after = c.ranges.after in
    let d : FitsSigned w64 c.first_day-day.result = search rules in
    let first = simp to_z-of_z at c.first_day-day.ensures in
    let last = simp to_z-of_z at c.in_period-length.ensures.last in
    let none = simp to_z-of_z at c.first_overflow_in.ensures.none in
    λ t. plain_none c.args.rule.now (is_overflow c.args.rule.now) (is_overflow c.args.rule.now) (λ n h. h) c.args.after c.args.number c.first_day-day.result c.in_period-length.result.after first last (none t)

pub returns-clause-near : goal.returns-clause-near
returns-clause-near c =
    let n : FitsSigned w64 c.args.number = c.ranges.number in
    let a : FitsSigned w64 c.args.after = c.ranges.after in
    let d : FitsSigned w64 c.first_day-day.result = search rules in
    let first = simp to_z-of_z at c.first_day-day.ensures in
    let found = simp to_z-of_z at c.first_overflow_in.ensures.some in
    near_plain (is_overflow c.args.rule.now) c.args.after c.first_day-day.result c.in_period-length.result.after c.first_overflow_in.result (rw first c.requires.days) c.in_period-length.ensures.after found
