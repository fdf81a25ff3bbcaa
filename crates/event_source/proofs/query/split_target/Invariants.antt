use Rattle.std.proofs.Common.{◌≡◌, ◌++◌, take, drop}
use Rattle.spec_http.specs.Messages.{path_of}
use Rattle.event_source.specs.StreamQueries.{query_of}
use Rattle.event_source.proofs.query.split_target.Given as goal

abbrev pub invariant-loop-i : goal.invariant-loop-i
invariant-loop-i l = record {
  path : take l.i l.target ++ path_of (drop l.i l.target) ≡ path_of l.target;
  query : query_of (drop l.i l.target) ≡ query_of l.target;
}
