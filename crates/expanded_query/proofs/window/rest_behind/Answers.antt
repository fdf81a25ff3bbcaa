use Rattle.std.proofs.Common.{◌∙◌, filter}
use Rattle.expanded_query.proofs.LastLemmas.{rest_ids}
use Rattle.expanded_query.specs.Founds.{found_item, is_not_behind}
use Rattle.expanded_query.proofs.window.rest_behind.Goals as goal

pub returns-then-passed-from-clause-rest : goal.returns-then-passed-from-clause-rest
returns-then-passed-from-clause-rest c =
    let results = c.args.results.now in
    let lower = c.args.lower.now in
    rest_ids c.args.order.now lower c.in_ok-rest.rest.items results
    (c.in_ok-rest.ensures ∙ (λ i. filter (λ r. is_not_behind (c.comparators.ensures i) (found_item r.found.now) (found_item lower)) results))
