use Rattle.std.proofs.Common.{◌≡◌, drop}
use Rattle.spec_series.specs.Lengths.{are_week_long}
use Rattle.object_outcomes.proofs.booking_rules.are_week_long.Given as goal

abbrev pub invariant-loop-exception : goal.invariant-loop-exception
invariant-loop-exception l = are_week_long (drop l.exception-index l.exceptions) ≡ are_week_long l.exceptions
