-- Why the days are surely not given.
use Rattle.std.proofs.Common.{◌∙◌, sym, pos, ◌+ℤ◌, FitsSigned, w64}
use Rattle.std.proofs.lemmas.Int.{to_z-of_z}
use Rattle.residue_clash.proofs.Unkept.{days_unkept, days_unmoved}
use Rattle.residue_clash.proofs.kept.ungiven_days.Goals as goal

pub returns-clause-ungiven : goal.returns-clause-ungiven
returns-clause-ungiven c =
    let f : FitsSigned w64 c.args.day = c.ranges.day in
    let u = simp to_z-of_z at c.unkept_days.ensures.unkept in
    λ i lt. days_unkept c.args.pushed c.args.rule.now (c.args.day +ℤ pos i) c.if-pushed.false (sym c.moves_backward.ensures ∙ c.if-moves_backward.false) (u i lt)

pub returns-then-pushed-clause-ungiven : goal.returns-then-pushed-clause-ungiven
returns-then-pushed-clause-ungiven c =
    let f : FitsSigned w64 c.args.day = c.ranges.day in
    let u = simp to_z-of_z at c.unmoved_days.ensures.unmoved in
    λ i lt. days_unmoved c.args.pushed c.args.rule.now (c.args.day +ℤ pos i) c.if-pushed.true (u i lt)
