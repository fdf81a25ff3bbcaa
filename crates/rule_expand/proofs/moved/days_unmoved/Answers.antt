-- Why the rule moves to none of the days.
use Rattle.std.proofs.Common.{◌∙◌, FitsSigned, arith, rules, w64}
use Rattle.std.proofs.lemmas.Int.{to_z-of_z}
use Rattle.rule_expand.proofs.Overflow.{none_moved}
use Rattle.rule_expand.proofs.moved.days_unmoved.Goals as goal

pub returns-clause-unmoved : goal.returns-clause-unmoved
returns-clause-unmoved c =
    let f : FitsSigned w64 c.args.day = c.ranges.day in
    let o : FitsSigned w64 c.origin.result = search rules in
    let from = simp to_z-of_z at c.origin.ensures.value in
    let day = simp to_z-of_z at c.with_date-at.ensures in
    λ i lt. none_moved c.args.rule.now c.args.day c.with_date-at.result.day c.days_to_end.result i (day ∙ from) c.days_to_end.ensures.value (omega (arith, lt, c.from.ensures))
