use Rattle.std.proofs.Common.{◌≡◌, ◌++◌, drop, filter}
use Rattle.expanded_query.specs.Founds.{found_item, is_not_behind}
use Rattle.expanded_query.proofs.window.results_from.Given as goal

abbrev pub invariant-loop-result : goal.invariant-loop-result
invariant-loop-result l =
    l.rest.items ++ filter (λ r. is_not_behind l.comparators (found_item r.found.now) (found_item l.lower)) (drop l.result-index l.results)
    ≡ filter (λ r. is_not_behind l.comparators (found_item r.found.now) (found_item l.lower)) l.results
