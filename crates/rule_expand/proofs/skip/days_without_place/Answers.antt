-- Why the days between are not kept.
use Rattle.std.proofs.Common.{rules, refl, pos, ◌-ℤ◌, arith, FitsSigned, w64}
use Rattle.std.proofs.lemmas.Int.{to_z-of_z}
use Rattle.jiff_core.proofs.SignedLemmas.{signed_arith}
use Rattle.rule_expand.proofs.Skips.{number_fits, unkept_before, unkept_rest}
use Rattle.rule_expand.proofs.skip.days_without_place.Goals as goal

pub first_in_period-requires-clause-near : goal.first_in_period-requires-clause-near
first_in_period-requires-clause-near c =
    let f : FitsSigned w64 c.args.day = c.ranges.day in
    let n : FitsSigned w64 c.number_of-number.result = search rules in
    let v = simp to_z-of_z at c.number_of-number.ensures.value in
    simp to_z-of_z (rw v (number_fits c.args.rule.now c.args.day c.requires).0)

pub first_in_period-requires-clause-days : goal.first_in_period-requires-clause-days
first_in_period-requires-clause-days c =
    let f : FitsSigned w64 c.args.day = c.ranges.day in
    let n : FitsSigned w64 c.number_of-number.result = search rules in
    let v = simp to_z-of_z at c.number_of-number.ensures.value in
    simp to_z-of_z (rw v (number_fits c.args.rule.now c.args.day c.requires).1)

pub returns-in-Some-clause-unkept : goal.returns-in-Some-clause-unkept
returns-in-Some-clause-unkept c =
    let f : FitsSigned w64 c.args.day = c.ranges.day in
    let n : FitsSigned w64 c.number_of-number.result = search rules in
    let x : FitsSigned w64 c.in-Some.next = search rules in
    let b : FitsSigned w64 (c.args.day -ℤ pos 1) = omega (arith, signed_arith, c.requires) in
    let v = simp to_z-of_z at c.number_of-number.ensures.value in
    let first = rw v at (simp to_z-of_z at c.in-Some.ensures.some) in
    unkept_before c.args.rule.now c.args.day c.in-Some.next first c.days_to.result (simp to_z-of_z at c.days_to.ensures.exact)

pub returns-in-None-clause-unkept : goal.returns-in-None-clause-unkept
returns-in-None-clause-unkept c =
    let f : FitsSigned w64 c.args.day = c.ranges.day in
    let n : FitsSigned w64 c.number_of-number.result = search rules in
    let b : FitsSigned w64 (c.args.day -ℤ pos 1) = omega (arith, signed_arith, c.requires) in
    let v = simp to_z-of_z at c.number_of-number.ensures.value in
    let none = rw v at (simp to_z-of_z at (c.in-None.ensures.none refl)) in
    unkept_rest c.args.rule.now c.args.day c.in_period.result.after none (simp to_z-of_z at c.in_period.ensures.last)
