-- Why a due day past the last that is asked about ends the walk.
use Rattle.std.proofs.Common.{FitsSigned, w64, rules, arith, to_z}
use Rattle.std.proofs.lemmas.Int.{to_z-of_z}
use Rattle.jiff_core.proofs.SignedLemmas.{signed_arith}
use Rattle.spec_series.specs.RuleSets.{is_due}
use Rattle.rule_expand.proofs.LastDays.{last_past}
use Rattle.rule_expand.proofs.set.last_due.Goals as goal

pub returns-then-n-high : goal.returns-then-n-high
returns-then-n-high c =
    let s : FitsSigned w64 c.args.start_day = c.ranges.start_day in
    let h : FitsSigned w64 c.args.high = c.ranges.high in
    let n : FitsSigned w64 c.in-Some.n = search rules in
    let is = simp to_z-of_z at c.loop-n.invariant in
    let some = simp to_z-of_z at c.in-Some.ensures.some in
    let over = simp to_z-of_z at c.if-n-high.true in
    last_past (is_due c.args.rule.now c.args.start_day) c.args.start_day c.args.high (to_z w64 c.loop-n.here-bits) c.in-Some.n is some (omega (arith, signed_arith, over))
