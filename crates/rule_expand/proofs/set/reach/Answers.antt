use Rattle.std.proofs.Common.{◌≡◌, FitsSigned, w64, rules, arith, to_z}
use Rattle.std.proofs.lemmas.Int.{to_z-of_z}
use Rattle.jiff_core.proofs.SignedLemmas.{signed_arith}
use Rattle.spec_series.specs.RuleSets.{is_due}
use Rattle.rule_expand.proofs.LastDays.{count_first, count_step}
use Rattle.rule_expand.proofs.set.reach.Goals as goal

pub loop-k-init : goal.loop-k-init
loop-k-init c =
    let s : FitsSigned w64 c.args.start_day = c.ranges.start_day in
    let h : FitsSigned w64 c.args.high = c.ranges.high in
    simp to_z-of_z (record { at = λ t. count_first (is_due c.args.rule.now c.args.start_day) c.args.count t c.args.start_day; near = omega (arith, signed_arith); high = c.requires.high.0 })

pub next_due-requires-clause-after : goal.next_due-requires-clause-after
next_due-requires-clause-after c =
    let s : FitsSigned w64 c.args.start_day = c.ranges.start_day in
    let near = simp to_z-of_z at c.loop-k.invariant.near in
    let from = simp to_z-of_z at (c.loop-k.invariant.at 0).from in
    (omega (arith, signed_arith, from, c.requires.start), omega (arith, signed_arith, near, c.requires.start, c.requires.count))

pub loop-k-preserved : goal.loop-k-preserved
loop-k-preserved c =
    let s : FitsSigned w64 c.args.start_day = c.ranges.start_day in
    let h : FitsSigned w64 c.args.high = c.ranges.high in
    let n : FitsSigned w64 c.in-Some.n = search rules in
    let at = simp to_z-of_z at c.loop-k.invariant.at in
    let near = simp to_z-of_z at c.loop-k.invariant.near in
    let some = simp to_z-of_z at c.in-Some.ensures.some in
    let far = c.in-Some.ensures.near in
    let test = simp to_z-of_z at c.if-n-high.false in
    simp to_z-of_z (record {
      at = λ t. count_step (is_due c.args.rule.now c.args.start_day) c.args.count t c.args.start_day (to_z w64 c.loop-k.here-bits) c.in-Some.n c.loop-k.k (at t) some;
      near = omega (arith, signed_arith, near, far);
      high = omega (arith, signed_arith, test);
    })

pub returns-in_default-clause-at : goal.returns-in_default-clause-at
returns-in_default-clause-at c =
    let s : FitsSigned w64 c.args.start_day = c.ranges.start_day in
    simp to_z-of_z at c.loop-k.invariant.at

pub returns-then-n-high-clause-at : goal.returns-then-n-high-clause-at
returns-then-n-high-clause-at c =
    let s : FitsSigned w64 c.args.start_day = c.ranges.start_day in
    simp to_z-of_z at c.loop-k.invariant.at

pub returns-clause-at : goal.returns-clause-at
returns-clause-at c =
    let s : FitsSigned w64 c.args.start_day = c.ranges.start_day in
    let at = simp to_z-of_z at c.loop-k.invariant.at in
    let end : c.loop-k.k ≡ c.args.count = omega (arith, c.requires.count) in
    λ t. rw end at (at t)
