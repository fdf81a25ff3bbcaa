use Rattle.std.proofs.Common.{◌≡◌, ◌+◌, take}
use Rattle.account_store.specs.Store.{entries}
use Rattle.spec_history.specs.History.{changes_of, count_of_kind}
use Rattle.account_core.proofs.ledger.Ledger.count_of_kind.Given as goal

abbrev pub invariant-loop-change : goal.invariant-loop-change
invariant-loop-change l = l.count ≡ count_of_kind (changes_of (entries l.self.store)) l.kind + count_of_kind (take l.change-index l.change-items) l.kind
