-- Why no day is passed over that `byMonthDay` may match.
use Rattle.std.proofs.Common.{FitsSigned, arith, rules, w64}
use Rattle.std.proofs.lemmas.Int.{to_z-of_z}
use Rattle.jiff_core.proofs.SignedLemmas.{signed_arith}
use Rattle.rule_expand.proofs.NextItem.{none_to_month_item}
use Rattle.rule_expand.proofs.matching.next_month_day.Goals as goal

pub returns-clause-none : goal.returns-clause-none
returns-clause-none c =
    let d : FitsSigned w64 c.args.at.day = search rules in
    let r : FitsSigned w64 c.ahead.result = search rules in
    let here = simp to_z-of_z at c.ahead.ensures.value in
    let day = simp to_z-of_z at c.with_date.ensures in
    λ n low high.
    none_to_month_item c.args.rule.now c.args.at.day c.around_in_month.result.before c.around_in_month.result.after c.days_to_item-days.result c.around_in_month.ensures.first c.around_in_month.ensures.last c.requires.parts (omega (arith, c.days_to_item-days.ensures.bounds))
    c.days_to_item-days.ensures.none c.requires.unmatched n low (omega (arith, signed_arith, high, day, here))
