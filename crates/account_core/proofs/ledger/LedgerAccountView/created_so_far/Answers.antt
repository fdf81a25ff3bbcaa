use Rattle.std.proofs.Common.{ap, sym, ◌+◌, ◌∙◌}
use Rattle.account_core.specs.Ledger.{changes}
use Rattle.spec_history.specs.History.{live_object}
use Rattle.account_core.proofs.Counting.{length_created, next_is_new}
use Rattle.account_core.proofs.ledger.LedgerAccountView.created_so_far.Goals as goal

pub returns-clause-exact : goal.returns-clause-exact
returns-clause-exact c = c.created.ensures.exact ∙ sym (length_created c.args.self.now.tally _ c.args.kind c.args.self.now.told)

pub returns-clause-new : goal.returns-clause-new
returns-clause-new c = ap (λ n. live_object (changes c.args.self.now) c.args.kind (n + 1)) c.created.ensures.exact ∙ next_is_new c.args.self.now.tally (changes c.args.self.now) c.args.kind c.args.self.now.told
