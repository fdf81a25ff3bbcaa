use Rattle.std.proofs.Common.{◌≡◌, FitsSigned, w64, rules, arith, refl, to_z}
use Rattle.std.proofs.lemmas.Int.{to_z-of_z}
use Rattle.jiff_core.proofs.SignedLemmas.{signed_arith}
use Rattle.spec_series.specs.RuleSets.{is_due}
use Rattle.rule_expand.proofs.LastDays.{count_step, count_none, count_full}
use Rattle.rule_expand.proofs.set.last_from.Goals as goal

pub loop-k-init : goal.loop-k-init
loop-k-init c =
    let s : FitsSigned w64 c.args.start_day = c.ranges.start_day in
    let f : FitsSigned w64 c.args.from = c.ranges.from in
    simp to_z-of_z (record { at = c.requires.at; near = c.requires.near })

pub next_due-requires-clause-after : goal.next_due-requires-clause-after
next_due-requires-clause-after c =
    let s : FitsSigned w64 c.args.start_day = c.ranges.start_day in
    let near = simp to_z-of_z at c.loop-k.invariant.near in
    let from = simp to_z-of_z at (c.loop-k.invariant.at 0).from in
    (omega (arith, signed_arith, from, c.requires.start), omega (arith, signed_arith, near, c.requires.start, c.requires.count))

pub returns-in_default-clause-greatest : goal.returns-in_default-clause-greatest
returns-in_default-clause-greatest c =
    let s : FitsSigned w64 c.args.start_day = c.ranges.start_day in
    let at = simp to_z-of_z at c.loop-k.invariant.at in
    let none = simp to_z-of_z at (c.in_default.ensures.none refl) in
    λ t. count_none (is_due c.args.rule.now c.args.start_day) c.args.count t c.args.start_day (to_z w64 c.loop-k.here-bits) c.loop-k.k (at t) (omega arith) (λ m lt g. none m lt refl g)

pub loop-k-preserved : goal.loop-k-preserved
loop-k-preserved c =
    let s : FitsSigned w64 c.args.start_day = c.ranges.start_day in
    let n : FitsSigned w64 c.in-Some.n = search rules in
    let at = simp to_z-of_z at c.loop-k.invariant.at in
    let near = simp to_z-of_z at c.loop-k.invariant.near in
    let some = simp to_z-of_z at c.in-Some.ensures.some in
    let far = c.in-Some.ensures.near in
    simp to_z-of_z (record {
      at = λ t. count_step (is_due c.args.rule.now c.args.start_day) c.args.count t c.args.start_day (to_z w64 c.loop-k.here-bits) c.in-Some.n c.loop-k.k (at t) some;
      near = omega (arith, signed_arith, near, far);
    })

pub returns-clause-greatest : goal.returns-clause-greatest
returns-clause-greatest c =
    let s : FitsSigned w64 c.args.start_day = c.ranges.start_day in
    let at = simp to_z-of_z at c.loop-k.invariant.at in
    let end : c.loop-k.k ≡ c.args.count = omega (arith, c.requires.count) in
    λ t. count_full (is_due c.args.rule.now c.args.start_day) c.args.count t c.args.start_day (to_z w64 c.loop-k.here-bits) (rw end at (at t))

pub returns-in_default-clause-near : goal.returns-in_default-clause-near
returns-in_default-clause-near c =
    let s : FitsSigned w64 c.args.start_day = c.ranges.start_day in
    let near = simp to_z-of_z at c.loop-k.invariant.near in
    let from = simp to_z-of_z at (c.loop-k.invariant.at 0).from in
    (omega (arith, signed_arith, from, c.requires.start), omega (arith, signed_arith, near, c.requires.start, c.requires.count))

pub returns-clause-near : goal.returns-clause-near
returns-clause-near c =
    let s : FitsSigned w64 c.args.start_day = c.ranges.start_day in
    let near = simp to_z-of_z at c.loop-k.invariant.near in
    let from = simp to_z-of_z at (c.loop-k.invariant.at 0).from in
    (omega (arith, signed_arith, from, c.requires.start), omega (arith, signed_arith, near, c.requires.start, c.requires.count))
