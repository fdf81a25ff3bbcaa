-- Why `skip` tells which day to look at.
use Rattle.std.proofs.Common.{◌∙◌, sym, arith, pos, ◌-ℤ◌, FitsSigned, w64}
use Rattle.std.proofs.lemmas.Int.{to_z-of_z}
use Rattle.jiff_core.proofs.SignedLemmas.{signed_arith}
use Rattle.spec_series.specs.RuleSets.{moved_from}
use Rattle.spec_series.specs.declared.by_part.Skip.TheVariants.{Omit, Backward, Forward}
use Rattle.rule_expand.proofs.Overflow.{moved_eq}
use Rattle.rule_expand.proofs.moved.is_moved_day.Goals as goal

pub returns-in-Omit : goal.returns-in-Omit
returns-in-Omit c = sym (moved_eq c.args.rule.now Omit c.args.day c.in-Omit.is)

pub returns-in-Backward : goal.returns-in-Backward
unfolding moved_from
returns-in-Backward c =
    let f : FitsSigned w64 c.args.day = c.ranges.day in
    (simp to_z-of_z at c.is_overflow_day.ensures) ∙ sym (moved_eq c.args.rule.now Backward c.args.day c.in-Backward.is)

pub returns-in-Forward : goal.returns-in-Forward
unfolding moved_from
returns-in-Forward c =
    let f : FitsSigned w64 c.args.day = c.ranges.day in
    let b : FitsSigned w64 (c.args.day -ℤ pos 1) = omega (arith, signed_arith, c.requires) in
    (simp to_z-of_z at c.is_overflow_day-in-Forward.ensures) ∙ sym (moved_eq c.args.rule.now Forward c.args.day c.in-Forward.is)
