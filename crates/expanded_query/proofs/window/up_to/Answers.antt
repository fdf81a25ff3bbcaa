use Rattle.std.proofs.Common.{◌∙◌, ap, filter, map}
use Rattle.expanded_query.proofs.FirstLemmas.{ranked_filter}
use Rattle.expanded_query.specs.Founds.{found_item, is_not_behind, ranked_result}
use Rattle.spec_queries.specs.Expanded.{ids_in_order}
use Rattle.expanded_query.proofs.window.up_to.Goals as goal

pub returns : goal.returns
returns c =
    let results = c.args.results.now in
    let last = found_item c.args.last.now in
    c.in_ok-sort.ensures
    ∙ ap (ids_in_order c.args.order.now)
    (ap (map ranked_result) (c.in_ok-first.ensures ∙ (λ i. filter (λ r. is_not_behind (c.comparators.ensures i) last (found_item r.found.now)) results))
    ∙ ranked_filter (λ p. is_not_behind c.args.order.now last p.1) results)
