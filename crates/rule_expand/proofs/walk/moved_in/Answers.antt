-- Why `skip` tells which day is found.
use Rattle.std.proofs.Common.{rules, refl, arith, pos, ◌-ℤ◌, FitsSigned, w64}
use Rattle.std.proofs.lemmas.Int.{to_z-of_z}
use Rattle.jiff_core.proofs.SignedLemmas.{signed_arith}
use Rattle.rule_expand.proofs.PeriodWalk.{moved_back_none, moved_back_some, moved_forward_none, moved_forward_some, moved_omit}
use Rattle.rule_expand.proofs.walk.moved_in.Goals as goal

pub ahead-requires-clause-near : goal.ahead-requires-clause-near
ahead-requires-clause-near c =
    let x : FitsSigned w64 c.in-Some.last = search rules in
    simp to_z-of_z c.in-Some.ensures.near

pub returns-in-Omit-clause-none : goal.returns-in-Omit-clause-none
returns-in-Omit-clause-none c = λ t m own past moved. moved_omit c.args.rule.now m c.in-Omit.is moved

pub returns-in-Backward-clause-none : goal.returns-in-Backward-clause-none
returns-in-Backward-clause-none c =
    let n : FitsSigned w64 c.args.number = c.ranges.number in
    let a : FitsSigned w64 c.args.after = c.ranges.after in
    let none = simp to_z-of_z at c.overflow_in.ensures.none in
    λ t. moved_back_none c.args.rule.now c.args.after c.args.number c.in-Backward.is (none t)

pub returns-in-Backward-clause-some : goal.returns-in-Backward-clause-some
returns-in-Backward-clause-some c =
    let n : FitsSigned w64 c.args.number = c.ranges.number in
    let a : FitsSigned w64 c.args.after = c.ranges.after in
    let some = simp to_z-of_z at c.overflow_in.ensures.some in
    moved_back_some c.args.rule.now c.args.after c.args.number c.overflow_in.result c.in-Backward.is some

pub returns-in-Some-clause-some : goal.returns-in-Some-clause-some
returns-in-Some-clause-some c =
    let n : FitsSigned w64 c.args.number = c.ranges.number in
    let a : FitsSigned w64 c.args.after = c.ranges.after in
    let b : FitsSigned w64 (c.args.after -ℤ pos 1) = omega (arith, signed_arith, c.requires.after) in
    let x : FitsSigned w64 c.in-Some.last = search rules in
    let y : FitsSigned w64 c.ahead.result = search rules in
    let some = simp to_z-of_z at c.in-Some.ensures.some in
    let at = simp to_z-of_z at c.ahead.ensures.value in
    simp to_z-of_z (moved_forward_some c.args.rule.now c.args.after c.args.number c.in-Some.last c.ahead.result c.in-Forward.is at some)

pub returns-in-None-clause-none : goal.returns-in-None-clause-none
returns-in-None-clause-none c =
    let n : FitsSigned w64 c.args.number = c.ranges.number in
    let a : FitsSigned w64 c.args.after = c.ranges.after in
    let b : FitsSigned w64 (c.args.after -ℤ pos 1) = omega (arith, signed_arith, c.requires.after) in
    let none = simp to_z-of_z at (c.in-None.ensures.none refl) in
    λ t. moved_forward_none c.args.rule.now c.args.after c.args.number c.in-Forward.is none
