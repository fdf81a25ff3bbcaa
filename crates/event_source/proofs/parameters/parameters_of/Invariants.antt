use Rattle.std.proofs.Common.{◌≡◌, ◌++◌, map}
use Rattle.form_urlencoded.specs.Parse.{raw_pairs_left}
use Rattle.event_source.specs.StreamQueries.{decoded_pair, parameters_of}
use Rattle.event_source.proofs.parameters.parameters_of.Given as goal

abbrev pub invariant-loop-name : goal.invariant-loop-name
invariant-loop-name l = l.parameters.items ++ map decoded_pair (raw_pairs_left l.name-iterator) ≡ parameters_of l.query
