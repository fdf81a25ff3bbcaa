-- Why the parts tell whether the month overflows.
use Rattle.std.proofs.Common.{◌∙◌, sym}
use Rattle.spec_series.specs.RuleSets.{month_matches}
use Rattle.rule_expand.proofs.Overflow.{over_by, not_named}
use Rattle.rule_expand.proofs.moved.overflows.Goals as goal

pub returns-then-not-in_months : goal.returns-then-not-in_months
unfolding month_matches
returns-then-not-in_months c =
    let e = rw c.args.at.month_is at c.in_months.ensures in
    not_named c.args.rule.now c.args.at.day (sym e ∙ c.if-not-in_months.true)

pub returns : goal.returns
unfolding month_matches
returns c =
    let e = rw c.args.at.month_is at c.in_months.ensures in
    let f = rw c.args.at.length_is at c.has_beyond.ensures in
    over_by c.args.rule.now c.args.at.day c.has_beyond.result (sym e ∙ c.if-not-in_months.false) f
