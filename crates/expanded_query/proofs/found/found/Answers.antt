use Rattle.std.proofs.Common.{◌≡◌, ◌∙◌, Some, ap, map, sym, unwrap_or}
use Rattle.account_store.specs.Store.{entries}
use Rattle.event_store.specs.EventsBase.{base_of}
use Rattle.expanded_query.proofs.FirstLemmas.{ids_length, same_cut}
use Rattle.expanded_query.specs.Founds.{id_at, ordered_ids}
use Rattle.spec_history.specs.History.{changes_of}
use Rattle.spec_queries.specs.Expanded.{cut_among, expanded_window}
use Rattle.spec_queries.specs.Found.{no_window}
use Rattle.expanded_query.proofs.found.found.Goals as goal

pub returns-clause-response : goal.returns-clause-response
returns-clause-response c =
    let paging = c.args.paging.now in
    let ids = ordered_ids c.args.order.now c.args.all.now in
    let total = sym (ids_length c.args.order.now c.args.all.now) in
    let asked : Some c.in-Some.cut ≡ cut_among paging ids = c.in-Some.ensures ∙ same_cut paging ids _ _ total c.in_ok-anchor.ensures.value in
    c.in_ok-expanded_window.ensures ids (ap (map id_at) c.deref.ensures.value ∙ c.in_ok-results.ensures) total
    ∙ ap (λ o. expanded_window (base_of c.args.events.now) (changes_of (entries c.args.events.now.store.now)) paging ids (unwrap_or o no_window)) asked
