use Rattle.std.proofs.Common.{◌≡◌, IfOk, [], subst₂}
use Rattle.account_core.specs.Ledger.{ledger_entries}
use Rattle.account_store.specs.Store.{entries}
use Rattle.event_store.specs.EventsBase.{base_of}
use Rattle.cal_model.specs.Answer.{answered, unless_error}
use Rattle.spec_history.specs.History.{changes_of}
use Rattle.spec_queries.specs.Queries.{query_changes_refusal, query_changes_response}
use Rattle.account_core.proofs.queries.query_changes.Goals as goal

pub returns : goal.returns
returns c =
    let l = c.args.ledger.now in
    let q = c.args.arguments.now in
    let lent = base_of c.events.result in
    let cs = changes_of (entries c.events.result.store.now) in
    let changed = c.query_changes-changed.ensures in
    subst₂ (λ b s. IfOk c.told.result (λ r. r ≡ unless_error (ledger_entries l) (query_changes_refusal b (changes_of (entries s)) q)
    (answered (ledger_entries l) (query_changes_response b (changes_of (entries s)) q) []))) c.events.ensures.base c.events.ensures.store
    (c.told.ensures (query_changes_refusal lent cs q) (query_changes_response lent cs q) changed.response changed.answered changed.refused)
