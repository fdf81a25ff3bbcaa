-- What a ledger shows.
use Rattle.std.specs.Prelude.{List, ◌++◌}
use Rattle.std.specs.Arc.{arc_value}
use Rattle.account_core.specs.declared.ledger.Ledger.{Ledger}
use Rattle.account_store.specs.Store.{entries}
use Rattle.spec_history.specs.Base.{Base}
use Rattle.spec_history.specs.History.{changes_of}
use Rattle.spec_history.specs.declared.entry.Change.{Change}
use Rattle.spec_history.specs.declared.entry.Entry.{Entry}

-- what the account was opened with
abbrev pub base : Ledger → Base
base l = record { account_id = l.id; zones = arc_value l.zones; generation = l.generation }

-- the account's entries
abbrev pub ledger_entries : Ledger → List Entry
ledger_entries l = entries l.store

abbrev pub history : Ledger → List Change
history l = changes_of (ledger_entries l)

-- the changes that a call makes and that aren't entries yet
abbrev pub staged : Ledger → List Change
staged l = l.staged.items

-- the changes of the history and then those that a call makes
abbrev pub changes : Ledger → List Change
changes l = history l ++ staged l
