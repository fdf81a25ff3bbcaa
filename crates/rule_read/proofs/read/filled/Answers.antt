-- Why a rule with its implied parts is within the limits.
use Rattle.std.proofs.Common.{FitsSigned, w64}
use Rattle.std.proofs.lemmas.Int.{to_z-of_z}
use Rattle.rule_read.proofs.RuleLemmas.{filled_parts}
use Rattle.rule_read.proofs.read.filled.Goals as goal

pub invariant_of-result-clause-by_parts_in : goal.invariant_of-result-clause-by_parts_in
invariant_of-result-clause-by_parts_in c =
    let d : FitsSigned w64 c.args.day = c.ranges.day in
    let days = simp to_z-of_z at c.in_ok-by_day.ensures in
    let month_days = simp to_z-of_z at c.in_ok-by_month_day.ensures in
    let months = simp to_z-of_z at c.in_ok-by_month.ensures in
    rw (days, month_days, months) (filled_parts c.args.frame.frequency c.args.day c.args.by_day c.args.by_month_day c.args.by_month c.args.by_year_day c.args.by_set c.requires.parts)
