use Rattle.std.proofs.Common.{◌∙◌, ap, map, true}
use Rattle.std.proofs.lemmas.Result.{IfOk-weaker}
use Rattle.account_store.specs.Store.{entries}
use Rattle.event_store.specs.EventsBase.{base_of}
use Rattle.spec_history.specs.History.{changes_of}
use Rattle.spec_json.specs.Data.{items_of, list, text}
use Rattle.spec_queries.specs.Found.{window_response}
use Rattle.expanded_query.proofs.found.expanded_window.Goals as goal

pub returns : goal.returns
returns c =
    IfOk-weaker c.window_tree.result _ _
    (λ t reply ids same all.
    let told = c.in_ok-ids.ensures ∙ ap (λ is. list (items_of (map text is))) same in
    reply ∙ (λ i. window_response (base_of c.args.events.now) (changes_of (entries c.args.events.now.store.now)) c.args.paging.now true (told i) (all i) c.args.cut))
    c.window_tree.ensures
