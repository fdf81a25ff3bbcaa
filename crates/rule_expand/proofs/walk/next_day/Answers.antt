use Rattle.std.proofs.Common.{refl, ◌≡◌, ◌≤◌, ◌+◌, FitsSigned, w64, rules, arith}
use Rattle.std.proofs.lemmas.Int.{to_z-of_z}
use Rattle.jiff_core.proofs.SignedLemmas.{signed_arith}
use Rattle.rule_expand.specs.Walk.{periods}
use Rattle.rule_expand.proofs.PeriodWalk.{first_is, walk_more, walk_found, walk_none, walk_past}
use Rattle.rule_expand.proofs.walk.next_day.Goals as goal

pub first_given-requires-clause-near : goal.first_given-requires-clause-near
first_given-requires-clause-near c =
    let a : FitsSigned w64 c.args.after = c.ranges.after in
    let s : FitsSigned w64 c.args.start_day = c.ranges.start_day in
    let x : FitsSigned w64 c.number_of-here.result = search rules in
    let y : FitsSigned w64 c.number_of-start.result = search rules in
    let f : FitsSigned w64 c.first_period-first.result = search rules in
    let here = simp to_z-of_z at c.number_of-here.ensures.value in
    let start = simp to_z-of_z at c.number_of-start.ensures.value in
    let v = simp to_z-of_z at c.first_period-first.ensures.value in
    let e = rw (here, start) at v in
    let first = first_is c.args.rule.now c.args.start_day c.args.after c.first_period-first.result e in
    let n : FitsSigned w64 c.steps_later-number.result = search rules in
    let num = simp to_z-of_z at c.steps_later-number.ensures.value in
    let small : c.loop-j.j ≤ periods c.args.rule.now.frequency = omega (arith, c.walk_length-j-end.ensures.value) in
    let q = c.requires.reach c.first_period-first.result c.loop-j.j first small in
    let near = rw (← num) at q.0 in
    simp to_z-of_z (omega (arith, signed_arith, near))

pub first_given-requires-clause-days : goal.first_given-requires-clause-days
first_given-requires-clause-days c =
    let a : FitsSigned w64 c.args.after = c.ranges.after in
    let s : FitsSigned w64 c.args.start_day = c.ranges.start_day in
    let x : FitsSigned w64 c.number_of-here.result = search rules in
    let y : FitsSigned w64 c.number_of-start.result = search rules in
    let f : FitsSigned w64 c.first_period-first.result = search rules in
    let here = simp to_z-of_z at c.number_of-here.ensures.value in
    let start = simp to_z-of_z at c.number_of-start.ensures.value in
    let v = simp to_z-of_z at c.first_period-first.ensures.value in
    let e = rw (here, start) at v in
    let first = first_is c.args.rule.now c.args.start_day c.args.after c.first_period-first.result e in
    let n : FitsSigned w64 c.steps_later-number.result = search rules in
    let num = simp to_z-of_z at c.steps_later-number.ensures.value in
    let small : c.loop-j.j ≤ periods c.args.rule.now.frequency = omega (arith, c.walk_length-j-end.ensures.value) in
    let q = c.requires.reach c.first_period-first.result c.loop-j.j first small in
    simp to_z-of_z (rw (← num) at q.1)

pub returns-in-Some-clause-some : goal.returns-in-Some-clause-some
returns-in-Some-clause-some c =
    let a : FitsSigned w64 c.args.after = c.ranges.after in
    let s : FitsSigned w64 c.args.start_day = c.ranges.start_day in
    let x : FitsSigned w64 c.number_of-here.result = search rules in
    let y : FitsSigned w64 c.number_of-start.result = search rules in
    let f : FitsSigned w64 c.first_period-first.result = search rules in
    let here = simp to_z-of_z at c.number_of-here.ensures.value in
    let start = simp to_z-of_z at c.number_of-start.ensures.value in
    let v = simp to_z-of_z at c.first_period-first.ensures.value in
    let e = rw (here, start) at v in
    let first = first_is c.args.rule.now c.args.start_day c.args.after c.first_period-first.result e in
    let n : FitsSigned w64 c.steps_later-number.result = search rules in
    let num = simp to_z-of_z at c.steps_later-number.ensures.value in
    let found = rw num at (simp to_z-of_z at c.in-Some.ensures.some) in
    let old = simp to_z-of_z at c.loop-j.invariant in
    let z : FitsSigned w64 c.in-Some.day = search rules in
    simp to_z-of_z (walk_found c.args.rule.now c.args.start_day c.args.after c.first_period-first.result c.in-Some.day c.loop-j.j first old found)

pub loop-j-preserved : goal.loop-j-preserved
loop-j-preserved c =
    let a : FitsSigned w64 c.args.after = c.ranges.after in
    let s : FitsSigned w64 c.args.start_day = c.ranges.start_day in
    let x : FitsSigned w64 c.number_of-here.result = search rules in
    let y : FitsSigned w64 c.number_of-start.result = search rules in
    let f : FitsSigned w64 c.first_period-first.result = search rules in
    let here = simp to_z-of_z at c.number_of-here.ensures.value in
    let start = simp to_z-of_z at c.number_of-start.ensures.value in
    let v = simp to_z-of_z at c.first_period-first.ensures.value in
    let e = rw (here, start) at v in
    let first = first_is c.args.rule.now c.args.start_day c.args.after c.first_period-first.result e in
    let n : FitsSigned w64 c.steps_later-number.result = search rules in
    let num = simp to_z-of_z at c.steps_later-number.ensures.value in
    let old = simp to_z-of_z at c.loop-j.invariant in
    let none = rw num at (simp to_z-of_z at (c.in_default.ensures.none refl)) in
    simp to_z-of_z (walk_more c.args.rule.now c.args.after c.first_period-first.result c.loop-j.j old none)

pub returns-clause-none : goal.returns-clause-none
returns-clause-none c =
    let a : FitsSigned w64 c.args.after = c.ranges.after in
    let s : FitsSigned w64 c.args.start_day = c.ranges.start_day in
    let x : FitsSigned w64 c.number_of-here.result = search rules in
    let y : FitsSigned w64 c.number_of-start.result = search rules in
    let f : FitsSigned w64 c.first_period-first.result = search rules in
    let here = simp to_z-of_z at c.number_of-here.ensures.value in
    let start = simp to_z-of_z at c.number_of-start.ensures.value in
    let v = simp to_z-of_z at c.first_period-first.ensures.value in
    let e = rw (here, start) at v in
    let first = first_is c.args.rule.now c.args.start_day c.args.after c.first_period-first.result e in
    let old = simp to_z-of_z at c.loop-j.invariant in
    let end : c.loop-j.j ≡ periods c.args.rule.now.frequency + 1 = omega (arith, c.walk_length-j-end.ensures.value) in
    λ t m day by. walk_none c.args.rule.now c.args.start_day c.args.after c.first_period-first.result first (rw end at old) m day

pub returns-then-number-high-clause-none : goal.returns-then-number-high-clause-none
returns-then-number-high-clause-none c =
    let a : FitsSigned w64 c.args.after = c.ranges.after in
    let s : FitsSigned w64 c.args.start_day = c.ranges.start_day in
    let x : FitsSigned w64 c.number_of-here.result = search rules in
    let y : FitsSigned w64 c.number_of-start.result = search rules in
    let f : FitsSigned w64 c.first_period-first.result = search rules in
    let here = simp to_z-of_z at c.number_of-here.ensures.value in
    let start = simp to_z-of_z at c.number_of-start.ensures.value in
    let v = simp to_z-of_z at c.first_period-first.ensures.value in
    let e = rw (here, start) at v in
    let first = first_is c.args.rule.now c.args.start_day c.args.after c.first_period-first.result e in
    let n : FitsSigned w64 c.steps_later-number.result = search rules in
    let num = simp to_z-of_z at c.steps_later-number.ensures.value in
    let h : FitsSigned w64 c.last_period-high.result = search rules in
    let high = c.last_period-high.ensures in
    let old = simp to_z-of_z at c.loop-j.invariant in
    let over = rw (high, num) at (simp to_z-of_z at c.if-number-high.true) in
    let near = rw num at c.steps_later-number.ensures.near in
    λ t m day by. walk_past c.args.rule.now c.args.start_day c.args.after c.first_period-first.result c.loop-j.j c.args.bound first old (omega (arith, signed_arith, near)) (omega (arith, signed_arith, over)) m day by
