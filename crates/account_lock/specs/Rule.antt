-- The rule of the lock's table, and the lock that such a table is.
use Rattle.std.specs.Prelude.{◌≡◌, ℕ, ◌⊎◌, IsTrue, List, [], ◌∷◌, Option, Some, None, slice_index}
use mathlib.Core.Option.{none, some}
use mathlib.Core.Option as table
use Rattle.atomic_table.specs.Table.{State}
use Rattle.spec_history.specs.Base.{Base}
use Rattle.account_lock.specs.Lock.{PassView, TicketLock, has_turn}
use Rattle.account_lock.specs.LockSteps.{IsReached}
use Rattle.spec_history.specs.declared.entry.Entry.{Entry}
use Rattle.account_lock.specs.TicketRule.{At, TicketsHold, PassesHold}
use Rattle.account_lock.specs.HistoryRule.{HistoryHolds}

abbrev pub slot_of : {B : Type 0} → List (table.Option (Option B)) → Option B
slot_of [] = None
slot_of (none ∷ _) = None
slot_of (some slot ∷ _) = slot

-- a table of these three words and one slot as a ticket lock
abbrev pub lock_at : {B : Type 0} → ℕ → ℕ → ℕ → State (Option B) PassView → TicketLock B
lock_at ticket serving count s = record { ticket = ticket; serving = serving; count = count; slot = slot_of s.homes; views = s.views }

abbrev pub lock_of : {B : Type 0} → State (Option B) PassView → TicketLock B
lock_of s = lock_at (slice_index s.words 0) (slice_index s.words 1) (slice_index s.words 2) s

module _ {B : Type 0} (entries : B → List Entry) (base : B → Base) where
  -- The slot has the book, with the whole history, and no pass has the turn; or the slot is out, and one has it.
  abbrev pub SlotHolds : Base → List Entry → State (Option B) PassView → Type 0
  SlotHolds z history s =
      ((b : B) × (s.homes ≡ some (Some b) ∷ []) × (base b ≡ z) × (entries b ≡ history) × ((i : ℕ) (v : PassView) → At s.views i v → IsTrue (has_turn v.phase) → ⊥))
      ⊎ ((s.homes ≡ none ∷ []) × ((i : ℕ) × (v : PassView) × At s.views i v × IsTrue (has_turn v.phase)))

  -- Stronger than what a ticket lock keeps, so that each step keeps it.
  pub record RuleHolds (opened : List Entry) (z : Base) (s : State (Option B) PassView) : Type 0 where
    pub ticket : ℕ
    pub serving : ℕ
    pub count : ℕ
    pub words : s.words ≡ ticket ∷ serving ∷ count ∷ []
    pub history : List Entry
    pub passes : PassesHold s.views
    pub tickets : TicketsHold ticket serving s.views
    pub told : HistoryHolds opened z history count s.views
    pub slot : SlotHolds z history s
    pub reached : IsReached entries base opened z (lock_at ticket serving count s)
