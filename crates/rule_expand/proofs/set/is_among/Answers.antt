-- Why the place of a due day in the count is found.
use Rattle.std.proofs.Common.{◌≡◌, FitsSigned, w64, rules, arith, refl, to_z}
use Rattle.std.proofs.lemmas.Int.{to_z-of_z}
use Rattle.civil_days.proofs.Orders.{is_int_le}
use Rattle.jiff_core.proofs.SignedLemmas.{signed_arith}
use Rattle.spec_series.specs.RuleSets.{is_due}
use Rattle.rule_expand.proofs.LastDays.{among_next, among_not, count_first, count_step}
use Rattle.rule_expand.proofs.set.is_among.Goals as goal

pub loop-place-init : goal.loop-place-init
loop-place-init c =
    let s : FitsSigned w64 c.args.start_day = c.ranges.start_day in
    let d : FitsSigned w64 c.args.day = c.ranges.day in
    simp to_z-of_z (record { at = λ t. count_first (is_due c.args.rule.now c.args.start_day) c.args.count t c.args.start_day; before = c.requires.day; near = omega (arith, signed_arith) })

pub next_due-requires-clause-after : goal.next_due-requires-clause-after
next_due-requires-clause-after c =
    let s : FitsSigned w64 c.args.start_day = c.ranges.start_day in
    let near = simp to_z-of_z at c.loop-place.invariant.near in
    let from = simp to_z-of_z at (c.loop-place.invariant.at 0).from in
    (omega (arith, signed_arith, from, c.requires.start), omega (arith, signed_arith, near, c.requires.start, c.requires.count))

pub returns-in_default : goal.returns-in_default
returns-in_default c =
    let s : FitsSigned w64 c.args.start_day = c.ranges.start_day in
    let d : FitsSigned w64 c.args.day = c.ranges.day in
    let before = simp to_z-of_z at c.loop-place.invariant.before in
    let none = simp to_z-of_z at (c.in_default.ensures.none refl) in
    absurd (none c.args.day before (is_int_le c.args.day c.args.day (omega (arith, signed_arith))) c.requires.due)

pub returns-then-n-day : goal.returns-then-n-day
returns-then-n-day c =
    let s : FitsSigned w64 c.args.start_day = c.ranges.start_day in
    let d : FitsSigned w64 c.args.day = c.ranges.day in
    let n : FitsSigned w64 c.in-Some.n = search rules in
    let at = simp to_z-of_z at c.loop-place.invariant.at in
    let before = simp to_z-of_z at c.loop-place.invariant.before in
    let some = simp to_z-of_z at c.in-Some.ensures.some in
    let le = simp to_z-of_z at c.if-n-day.true in
    λ t. among_next (is_due c.args.rule.now c.args.start_day) c.args.count t c.args.start_day (to_z w64 c.loop-place.here-bits) c.args.day c.loop-place.place (at t) before c.in-Some.n (omega arith) c.requires.due some (omega (arith, signed_arith, le))

pub loop-place-preserved : goal.loop-place-preserved
loop-place-preserved c =
    let s : FitsSigned w64 c.args.start_day = c.ranges.start_day in
    let d : FitsSigned w64 c.args.day = c.ranges.day in
    let n : FitsSigned w64 c.in-Some.n = search rules in
    let at = simp to_z-of_z at c.loop-place.invariant.at in
    let near = simp to_z-of_z at c.loop-place.invariant.near in
    let some = simp to_z-of_z at c.in-Some.ensures.some in
    let far = c.in-Some.ensures.near in
    let less = simp to_z-of_z at c.if-n-day.false in
    simp to_z-of_z (record {
      at = λ t. count_step (is_due c.args.rule.now c.args.start_day) c.args.count t c.args.start_day (to_z w64 c.loop-place.here-bits) c.in-Some.n c.loop-place.place (at t) some;
      before = omega (arith, signed_arith, less);
      near = omega (arith, signed_arith, near, far);
    })

pub returns : goal.returns
returns c =
    let s : FitsSigned w64 c.args.start_day = c.ranges.start_day in
    let d : FitsSigned w64 c.args.day = c.ranges.day in
    let at = simp to_z-of_z at c.loop-place.invariant.at in
    let before = simp to_z-of_z at c.loop-place.invariant.before in
    let end : c.loop-place.place ≡ c.args.count = omega (arith, c.requires.count) in
    λ t. among_not (is_due c.args.rule.now c.args.start_day) c.args.count t c.args.start_day (to_z w64 c.loop-place.here-bits) c.args.day c.loop-place.place (at t) before end
