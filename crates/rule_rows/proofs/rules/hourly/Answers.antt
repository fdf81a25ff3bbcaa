-- Why a series without exceptions keeps its limits.
use Rattle.std.proofs.Common.{refl, arith}
use Rattle.spec_series.specs.SeriesLimits.{are_distinct}
use Rattle.rule_rows.proofs.rules.hourly.Goals as goal

pub invariant_of-result : goal.invariant_of-result
unfolding are_distinct
invariant_of-result c =
    let none = c.none.ensures in
    record {
      start_in = c.requires.years;
      length_in = omega arith;
      few_rules = c.requires.few;
      few_exceptions = rw none (omega arith);
      exceptions_in = rw none refl;
      exceptions_short = rw none refl;
      exceptions_distinct = rw none refl;
    }
