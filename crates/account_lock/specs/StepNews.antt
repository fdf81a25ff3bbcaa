-- What each step on a word of the lock tells the pass that makes it, of its view and its slots before and after, and of the number found.
use Rattle.std.specs.Prelude.{◌≡◌, ◌≢◌, ℕ, List, [], ◌∷◌, length, Option, Some, None}
use Rattle.atomic_table.specs.Seated.{TableId}
use Rattle.atomic_table.specs.Table.{Me, Step, rest}
use Rattle.spec_history.specs.Base.{Base}
use Rattle.account_lock.specs.Lock.{PassView}
use Rattle.account_lock.specs.LockSteps.{with_ticket, with_turn, having_read, having_added, out_of_line}
use Rattle.spec_history.specs.declared.entry.Entry.{Entry}
use Rattle.spec_history.specs.Signed.{Extends}

-- the seat is at this table, which has the three words of a lock
abbrev pub IsSeatOf : TableId → TableId → Type 0
IsSeatOf table seat = (seat ≡ table) × (table.words ≡ 3)

-- the pass has the slot, with this book in it, or empty
abbrev pub HasBook : {B : Type 0} → List (ℕ × Option B) → B → Type 0
HasBook slots b = slots ≡ (0, Some b) ∷ []

abbrev pub HasEmptySlot : {B : Type 0} → List (ℕ × Option B) → Type 0
HasEmptySlot slots = slots ≡ (0, None) ∷ []

module _ {S : Type 0} where
  abbrev pub took_ticket : Step S → Me S PassView → ℕ → Me S PassView → Type 0
  took_ticket step before found after = after ≡ (with_ticket before.0 found, before.1)

  abbrev pub read_count : Step S → Me S PassView → ℕ → Me S PassView → Type 0
  read_count step before found after = (after ≡ (having_read before.0, before.1)) × (found ≡ length before.0.hand.1)

  abbrev pub added_entries : List Entry → Step S → Me S PassView → ℕ → Me S PassView → Type 0
  added_entries xs step before found after = after ≡ (having_added before.0 xs, before.1)

  abbrev pub left_line : Step S → Me S PassView → ℕ → Me S PassView → Type 0
  left_line step before found after = after ≡ (out_of_line before.0, rest before.1)

module _ {B : Type 0} (entries : B → List Entry) (base : B → Base) where
  -- the pass has the turn, and the slot with the book: it has the lock's base, and begins with what the pass had seen, with no entry of the pass behind it
  abbrev pub HasTurn : Me (Option B) PassView → Me (Option B) PassView → Type 0
  HasTurn before after = (b : B) × (after ≡ (with_turn before.0 (base b) (entries b), (0, Some b) ∷ before.1)) × (base b ≡ before.0.base) × Extends before.0.number before.0.seen (entries b)

  abbrev pub looked : Step (Option B) → Me (Option B) PassView → ℕ → Me (Option B) PassView → Type 0
  looked step before found after = (found ≡ before.0.ticket → HasTurn before after) × (found ≢ before.0.ticket → after ≡ before)
