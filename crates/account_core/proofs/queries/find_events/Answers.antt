use Rattle.std.proofs.Common.{◌≡◌, IfOk, [], subst₂}
use Rattle.account_core.specs.Ledger.{ledger_entries}
use Rattle.account_store.specs.Store.{entries}
use Rattle.event_store.specs.EventsBase.{base_of}
use Rattle.cal_model.specs.Answer.{answered, unless_error}
use Rattle.spec_history.specs.History.{changes_of}
use Rattle.spec_queries.specs.Queries.{events_asked, query_refusal, query_response}
use Rattle.account_core.proofs.queries.find_events.Goals as goal

pub returns : goal.returns
returns c =
    let l = c.args.ledger.now in
    let q = events_asked c.args.criteria.now c.args.paging.now in
    let lent = base_of c.events.result in
    let cs = changes_of (entries c.events.result.store.now) in
    let found = c.query-found.ensures in
    subst₂ (λ b s. IfOk c.told.result (λ r. r ≡ unless_error (ledger_entries l) (query_refusal b (changes_of (entries s)) q)
    (answered (ledger_entries l) (query_response b (changes_of (entries s)) q) []))) c.events.ensures.base c.events.ensures.store
    (c.told.ensures (query_refusal lent cs q) (query_response lent cs q) found.response found.answered found.refused)
