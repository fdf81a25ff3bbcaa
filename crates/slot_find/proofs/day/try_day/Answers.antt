-- The series is one, since it has no exceptions and lasts no longer than a booking may.
use Rattle.std.proofs.Common.{[], ap, arith, length, subst, sym, ◌≡◌, ◌≤◌}
use Rattle.slot_find.proofs.Looks.{none_distinct}
use Rattle.spec_series.specs.SeriesLimits.{are_in_years, are_short}
use Rattle.slot_find.proofs.day.try_day.Goals as goal

pub invariant_of-series : goal.invariant_of-series
invariant_of-series c =
    let none : c.none.result ≡ [] = c.none.ensures in
    let short = c.args.wish.now.length_in in
    record {
      start_in = c.requires.at;
      length_in = omega (arith, short);
      few_rules = c.in_ok-rules.ensures.few;
      few_exceptions = subst (λ xs. length xs ≤ 128) (sym none) (omega arith);
      exceptions_in = ap are_in_years none;
      exceptions_short = ap are_short none;
      exceptions_distinct = none_distinct c.none.result none;
    }
