use Rattle.std.proofs.Common.{◌≡◌, ◌++◌, drop, flat_map, map}
use Rattle.expanded_query.specs.Founds.{found_result, given_by}
use Rattle.expanded_query.proofs.all_found.all_found.Given as goal

abbrev pub invariant-loop-source : goal.invariant-loop-source
invariant-loop-source l = map found_result l.found.items ++ flat_map (given_by l.window) (drop l.source-index l.sources) ≡ flat_map (given_by l.window) l.sources
