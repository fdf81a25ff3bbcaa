use Rattle.std.proofs.Common.{◌≡◌, ◌++◌, drop, map}
use Rattle.expanded_query.specs.Founds.{found_result, ranked_result}
use Rattle.expanded_query.proofs.order.references.Given as goal

abbrev pub invariant-loop-one : goal.invariant-loop-one
invariant-loop-one l = map ranked_result l.results.items ++ map found_result (drop l.one-index l.found) ≡ map found_result l.found
