use Rattle.std.proofs.Common.{◌≡◌, ◌++◌, drop}
use Rattle.event_source.specs.StreamQueries.{only_value, values_called}
use Rattle.event_source.proofs.Finding.{found_so_far}
use Rattle.event_source.proofs.parameters.only_value.Given as goal

abbrev pub invariant-loop-parameter : goal.invariant-loop-parameter
invariant-loop-parameter l = only_value (found_so_far l.found ++ values_called l.name (drop l.parameter-index l.parameters)) ≡ only_value (values_called l.name l.parameters)
