use Rattle.std.proofs.Common.{◌≡◌, ◌++◌, drop, option_map}
use Rattle.account_store.specs.Store.{entries}
use Rattle.spec_history.specs.History.{changes_of, live_object, object_from}
use Rattle.account_core.proofs.ledger.LedgerAccountView.live.Given as goal

abbrev pub invariant-loop-change : goal.invariant-loop-change
invariant-loop-change l = object_from (option_map (λ t. t.now) l.found) (drop l.change-index l.change-items) l.kind l.id
    ≡ live_object (changes_of (entries l.self.store) ++ l.self.staged.items) l.kind l.id
