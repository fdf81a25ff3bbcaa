use Rattle.std.proofs.Common.{◌≡◌, ◌||◌, ℕ, drop}
use Rattle.std.specs.BTreeSet.{contains}
use Rattle.std.specs.Ordering.{nat_cmp}
use Rattle.account_core.proofs.InUse.{has_event_among}
use Rattle.account_store.specs.Store.{entries}
use Rattle.cal_model.specs.EventObject.{has_event}
use Rattle.spec_history.specs.History.{changes_of}
use Rattle.account_core.proofs.uses.calendars_in_use.Given as goal

abbrev pub invariant-loop-number : goal.invariant-loop-number
invariant-loop-number l = (n : ℕ) → (has_event_among (changes_of (entries l.store)) n (drop l.number-index l.number-items) || contains nat_cmp l.in_use n)
    ≡ has_event (changes_of (entries l.store)) n
