use Rattle.std.proofs.Common.{refl, arith}
use Rattle.spec_series.specs.SeriesLimits.{are_distinct}
use Rattle.rule_rows.proofs.windows.events.no_exceptions.Goals as goal

pub invariant_of-result : goal.invariant_of-result
unfolding are_distinct
invariant_of-result c =
    let none = c.none.ensures in
    record { few = rw none (omega arith); in_years = rw none refl; short = rw none refl; distinct = rw none refl }
