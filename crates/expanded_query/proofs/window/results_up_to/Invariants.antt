use Rattle.std.proofs.Common.{◌≡◌, ◌++◌, drop, filter}
use Rattle.expanded_query.specs.Founds.{found_item, is_not_behind}
use Rattle.expanded_query.proofs.window.results_up_to.Given as goal

abbrev pub invariant-loop-result : goal.invariant-loop-result
invariant-loop-result l =
    l.first.items ++ filter (λ r. is_not_behind l.comparators (found_item l.last) (found_item r.found.now)) (drop l.result-index l.results)
    ≡ filter (λ r. is_not_behind l.comparators (found_item l.last) (found_item r.found.now)) l.results
