-- Why the first last day of a month that overflows is found.
use Rattle.std.proofs.Common.{◌≡◌, ◌∙◌, sym, ap, arith, rules, FitsSigned, w64, pos, ◌+ℤ◌, true, false}
use Rattle.std.proofs.lemmas.Int.{by_lt_z, to_z-of_z}
use Rattle.jiff_core.proofs.SignedLemmas.{signed_arith}
use Rattle.spec_time.specs.CivilDay.{month_of, year_of}
use Rattle.spec_series.specs.Periods.{month_last}
use Rattle.spec_series.specs.RuleSets.{is_overflow}
use Rattle.rule_expand.proofs.Dates.{at_law, month_last-is, month_length_bounds}
use Rattle.rule_expand.proofs.MatchingDays.{gap_falls, last_after}
use Rattle.rule_expand.proofs.Overflow.{not_end, over_end, none_to_next}
use Rattle.rule_expand.proofs.moved.first_overflow.Goals as goal

pub returns-then-end-last-clause-none : goal.returns-then-end-last-clause-none
returns-then-end-last-clause-none c =
    let f : FitsSigned w64 c.args.from = c.ranges.from in
    let l : FitsSigned w64 c.args.last = c.ranges.last in
    let d : FitsSigned w64 c.loop-at.at.day = search rules in
    let e : FitsSigned w64 c.month_end-end.result = search rules in
    let none = simp to_z-of_z at c.loop-at.invariant.none in
    let test = simp to_z-of_z at c.if-end-last.true in
    let end = c.month_end-end.ensures in
    λ t n low high k.
    by_lt_z n c.loop-at.at.day
    (λ lt. let x = none n low lt in cc)
    (λ ge. let x = not_end c.args.rule.now c.loop-at.at.day n ge (omega (arith, signed_arith, high, test, end)) in cc)

pub returns-then-overflows-clause-some : goal.returns-then-overflows-clause-some
returns-then-overflows-clause-some c =
    let f : FitsSigned w64 c.args.from = c.ranges.from in
    let l : FitsSigned w64 c.args.last = c.ranges.last in
    let d : FitsSigned w64 c.loop-at.at.day = search rules in
    let e : FitsSigned w64 c.month_end-end.result = search rules in
    let low = simp to_z-of_z at c.loop-at.invariant.low in
    let none = simp to_z-of_z at c.loop-at.invariant.none in
    let test = simp to_z-of_z at c.if-end-last.false in
    let end = c.month_end-end.ensures in
    let over : is_overflow c.args.rule.now c.month_end-end.result ≡ true = ap (is_overflow c.args.rule.now) end ∙ over_end c.args.rule.now c.loop-at.at.day ∙ sym c.overflows.ensures ∙ c.if-overflows.true in
    simp to_z-of_z (record {
      low = omega (arith, signed_arith, low, end, last_after c.loop-at.at.day);
      high = omega (arith, signed_arith, test);
      matches = over;
      before = λ m low lt k.
          by_lt_z m c.loop-at.at.day
          (λ less. let x = none m low less in cc)
          (λ ge. let x = not_end c.args.rule.now c.loop-at.at.day m ge (omega (arith, signed_arith, lt, end)) in cc);
    })

pub loop-at-smaller : goal.loop-at-smaller
loop-at-smaller c =
    let f : FitsSigned w64 c.args.from = c.ranges.from in
    let l : FitsSigned w64 c.args.last = c.ranges.last in
    let d : FitsSigned w64 c.loop-at.at.day = search rules in
    let test = simp to_z-of_z at c.loop-at-test.true in
    simp to_z-of_z (gap_falls c.loop-at.at.day c.next_month-at.result.day (c.args.last +ℤ pos 1) (omega (arith, signed_arith, c.next_month-at.ensures, last_after c.loop-at.at.day)) (omega (arith, signed_arith, test)))

pub loop-at-preserved : goal.loop-at-preserved
loop-at-preserved c =
    let f : FitsSigned w64 c.args.from = c.ranges.from in
    let l : FitsSigned w64 c.args.last = c.ranges.last in
    let d : FitsSigned w64 c.loop-at.at.day = search rules in
    let low = simp to_z-of_z at c.loop-at.invariant.low in
    let none = simp to_z-of_z at c.loop-at.invariant.none in
    let test = simp to_z-of_z at c.loop-at-test.true in
    let day = c.loop-at.at.day in
    let over : is_overflow c.args.rule.now (month_last day) ≡ false = over_end c.args.rule.now day ∙ sym c.overflows.ensures ∙ c.if-overflows.false in
    simp to_z-of_z (record {
      low = omega (arith, signed_arith, low, c.next_month-at.ensures, last_after day);
      high = omega (arith, signed_arith, test, c.requires.last, c.next_month-at.ensures, month_last-is day, (at_law day).0, month_length_bounds (year_of day) (month_of day));
      none = λ n low high. by_lt_z n day (λ lt. none n low lt) (λ ge. none_to_next c.args.rule.now day n over ge (omega (arith, signed_arith, high, c.next_month-at.ensures)));
    })
