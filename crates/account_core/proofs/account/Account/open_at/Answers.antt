use Rattle.account_core.proofs.Trails.{has_nothing}
use Rattle.account_core.specs.Ledger.{base, ledger_entries}
use Rattle.account_core.proofs.account.Account.open_at.Goals as goal

pub invariant_of-result : goal.invariant_of-result
invariant_of-result c = (c.in_ok-open_at.ensures.staged, has_nothing (base c.in_ok-open_at.field-0).zones c.none.result (ledger_entries c.in_ok-open_at.field-0) c.none.ensures)
