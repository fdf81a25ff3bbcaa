use Rattle.account_core.proofs.Trails.{has_begun}
use Rattle.account_core.specs.Ledger.{base, ledger_entries}
use Rattle.account_core.proofs.account.Account.mark.Goals as goal

pub invariant_of-self : goal.invariant_of-self
invariant_of-self c = (
  c.self.invariant.0,
  has_begun (base c.self.inside.ledger).zones c.behind.result (ledger_entries c.self.inside.ledger) c.len-first.result c.behind.ensures.first c.behind.ensures.entries c.len-first.ensures,
)
