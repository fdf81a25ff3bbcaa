-- Why the parts tell whether the day is the last of a month that overflows.
use Rattle.std.proofs.Common.{◌≡◌, ◌∙◌, sym, FitsSigned, w64}
use Rattle.std.proofs.lemmas.Int.{to_z-of_z}
use Rattle.rule_expand.proofs.Overflow.{not_last, last_over}
use Rattle.rule_expand.proofs.moved.is_overflow_day.Goals as goal

pub returns-then-not-is_last : goal.returns-then-not-is_last
returns-then-not-is_last c =
    let f : FitsSigned w64 c.args.day = c.ranges.day in
    let day : c.with_date-at.result.day ≡ c.args.day = simp to_z-of_z at c.with_date-at.ensures in
    not_last c.args.rule.now c.args.day c.with_date-at.result.day day (sym c.is_last.ensures ∙ c.if-not-is_last.true)

pub returns : goal.returns
returns c =
    let f : FitsSigned w64 c.args.day = c.ranges.day in
    let day : c.with_date-at.result.day ≡ c.args.day = simp to_z-of_z at c.with_date-at.ensures in
    last_over c.args.rule.now c.args.day c.with_date-at.result.day day c.overflows.result (sym c.is_last.ensures ∙ c.if-not-is_last.false) c.overflows.ensures
