use Rattle.std.proofs.Common.{◌++◌, ◌∙◌, ap, append-nil}
use Rattle.account_core.specs.Ledger.{history}
use Rattle.account_core.proofs.ledger.LedgerAccountView.forget.Goals as goal

pub returns-clause-changes : goal.returns-clause-changes
returns-clause-changes c =
    let cs = history c.args.self.now in
    ap (λ ds. cs ++ ds) c.clear.ensures.items ∙ append-nil cs
