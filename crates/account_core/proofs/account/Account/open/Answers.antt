use Rattle.account_core.proofs.Trails.{has_nothing}
use Rattle.account_core.specs.Ledger.{base, ledger_entries}
use Rattle.account_core.proofs.account.Account.open.Goals as goal

pub invariant_of-result : goal.invariant_of-result
invariant_of-result c = (c.new.ensures.staged, has_nothing (base c.new.result).zones c.none.result (ledger_entries c.new.result) c.none.ensures)
