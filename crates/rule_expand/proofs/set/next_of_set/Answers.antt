use Rattle.std.proofs.Common.{FitsSigned, w64, rules, arith, refl, sym, ◌∙◌}
use Rattle.std.proofs.lemmas.Int.{to_z-of_z}
use Rattle.jiff_core.proofs.SignedLemmas.{signed_arith}
use Rattle.rule_expand.proofs.Sets.{first_start, none_from, first_found, none_found}
use Rattle.rule_expand.proofs.set.next_of_set.Goals as goal

pub returns-then-from-first-clause-some : goal.returns-then-from-first-clause-some
returns-then-from-first-clause-some c =
    let s : FitsSigned w64 c.args.start = c.ranges.start in
    let f : FitsSigned w64 c.args.from = c.ranges.from in
    let x : FitsSigned w64 c.day_of_second-first.result = search rules in
    let day = simp to_z-of_z at c.day_of_second-first.ensures.value in
    let le = simp to_z-of_z at c.if-from-first.true in
    simp to_z-of_z (first_start c.args.rule.now c.args.start c.day_of_second-first.result day c.args.from (omega (arith, signed_arith, le)))

pub returns-in_default-clause-none : goal.returns-in_default-clause-none
returns-in_default-clause-none c =
    let s : FitsSigned w64 c.args.start = c.ranges.start in
    let f : FitsSigned w64 c.args.from = c.ranges.from in
    let x : FitsSigned w64 c.day_of_second-first.result = search rules in
    let y : FitsSigned w64 c.day_before.result = search rules in
    let day = simp to_z-of_z at c.day_of_second-first.ensures.value in
    let before = simp to_z-of_z at c.day_before.ensures in
    let le = simp to_z-of_z at c.if-from-first.false in
    let none = simp to_z-of_z at (c.in_default.ensures.none refl) in
    λ t. none_from c.args.rule.now c.args.start c.day_of_second-first.result day c.args.from c.args.bound (omega (arith, signed_arith, le)) (rw before at none)

pub returns-then-is_within-clause-some : goal.returns-then-is_within-clause-some
returns-then-is_within-clause-some c =
    let s : FitsSigned w64 c.args.start = c.ranges.start in
    let f : FitsSigned w64 c.args.from = c.ranges.from in
    let x : FitsSigned w64 c.day_of_second-first.result = search rules in
    let y : FitsSigned w64 c.day_before.result = search rules in
    let n : FitsSigned w64 c.in-Some.n = search rules in
    let day = simp to_z-of_z at c.day_of_second-first.ensures.value in
    let before = simp to_z-of_z at c.day_before.ensures in
    let le = simp to_z-of_z at c.if-from-first.false in
    let some = simp to_z-of_z at c.in-Some.ensures.some in
    let within = simp to_z-of_z at c.is_within.ensures in
    simp to_z-of_z (first_found c.args.rule.now c.args.start c.day_of_second-first.result day c.args.from c.in-Some.n (omega (arith, signed_arith, le)) (rw before at some) (sym within ∙ c.if-is_within.true))

pub returns-clause-none : goal.returns-clause-none
returns-clause-none c =
    let s : FitsSigned w64 c.args.start = c.ranges.start in
    let f : FitsSigned w64 c.args.from = c.ranges.from in
    let x : FitsSigned w64 c.day_of_second-first.result = search rules in
    let y : FitsSigned w64 c.day_before.result = search rules in
    let n : FitsSigned w64 c.in-Some.n = search rules in
    let day = simp to_z-of_z at c.day_of_second-first.ensures.value in
    let before = simp to_z-of_z at c.day_before.ensures in
    let le = simp to_z-of_z at c.if-from-first.false in
    let some = simp to_z-of_z at c.in-Some.ensures.some in
    let within = simp to_z-of_z at c.is_within.ensures in
    λ t m low by. none_found c.args.rule.now c.args.start c.day_of_second-first.result day c.args.from c.in-Some.n (omega (arith, signed_arith, le)) (rw before at some) (sym within ∙ c.if-is_within.false) m low
