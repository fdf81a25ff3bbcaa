-- A ticket lock round a book, and what holds of it between any two steps of any threads.
use Rattle.std.specs.Prelude.{◌≡◌, ◌≢◌, ℕ, ◌+◌, ◌<◌, ◌≤◌, Bool, true, false, IsTrue, List, ◌++◌, length, sum_by, count_by, All, slice_get, Option, Some, None}
use Rattle.std.specs.List.Sorted.{IsNonDecreasingBy}
use Rattle.spec_history.specs.Base.{Base}
use Rattle.spec_history.specs.Signed.{written_by, Begins}
use Rattle.spec_history.specs.declared.entry.Entry.{Entry}
use Rattle.account_lock.specs.declared.lock.Phase.{Phase}
use Rattle.account_lock.specs.declared.lock.Phase.TheVariants.{Idle, Waits, Turn, Read, Done}

-- what a pass knows, which only its own steps change
pub record PassView : Type 0 where
  pub number : ℕ
  -- how many passes were split off from it
  pub splits : ℕ
  -- how many calls it has begun
  pub turns : ℕ
  pub phase : Phase
  pub ticket : ℕ
  -- the history, as far as it knows it, and the entries in it that its own calls added
  pub seen : List Entry
  pub mine : List Entry
  -- the base and the entries of the book that it took at its turn
  pub hand : Base × List Entry
  -- the entries and the base of the book that the lock was opened with
  pub opened : List Entry
  pub base : Base

-- the words, the slot, which is None while a pass has it, and the views of all passes in order of making, those of dropped passes among them
pub record TicketLock (B : Type 0) : Type 0 where
  pub ticket : ℕ
  pub serving : ℕ
  pub count : ℕ
  pub slot : Option B
  pub views : List PassView

-- a pass with a ticket whose turn isn't over
abbrev pub in_line : Phase → Bool
in_line Idle = false
in_line Waits = true
in_line Turn = true
in_line Read = true
in_line Done = true

abbrev pub has_turn : Phase → Bool
has_turn Idle = false
has_turn Waits = false
has_turn Turn = true
has_turn Read = true
has_turn Done = true

-- a pass with the turn that knows the whole history
abbrev pub has_read : Phase → Bool
has_read Idle = false
has_read Waits = false
has_read Turn = false
has_read Read = true
has_read Done = true

module _ {B : Type 0} (entries : B → List Entry) (base : B → Base) where
  pub record IsTicketLock (opened : List Entry) (lock_base : Base) (l : TicketLock B) : Type 0 where
    -- The next ticket is the number of calls that were begun. The passes in line have the tickets from the one that is served on, each its own.
    pub issued : l.ticket ≡ sum_by (λ v. v.turns) l.views
    pub waiting : l.serving + count_by (λ v. in_line v.phase) l.views ≡ l.ticket
    pub in_range : (i : ℕ) (v : PassView) → slice_get l.views i ≡ Some v → IsTrue (in_line v.phase) → (l.serving ≤ v.ticket) × (v.ticket < l.ticket)
    pub apart : (i j : ℕ) (v w : PassView) → slice_get l.views i ≡ Some v → slice_get l.views j ≡ Some w → IsTrue (in_line v.phase) → IsTrue (in_line w.phase) → v.ticket ≡ w.ticket → i ≡ j
    pub met : (k : ℕ) → l.serving ≤ k → k < l.ticket → (i : ℕ) × (v : PassView) × (slice_get l.views i ≡ Some v) × IsTrue (in_line v.phase) × (v.ticket ≡ k)
    -- Only the pass that is served has the turn, and the slot is empty only while one has it.
    pub served : (i : ℕ) (v : PassView) → slice_get l.views i ≡ Some v → IsTrue (has_turn v.phase) → v.ticket ≡ l.serving
    pub taken : l.slot ≡ None → (i : ℕ) × (v : PassView) × (slice_get l.views i ≡ Some v) × IsTrue (has_turn v.phase)
    -- The history is the longest that a pass has seen. Its length is the count, and the book has it, in the slot or in hand.
    pub history : List Entry
    pub known : (i : ℕ) × (v : PassView) × (slice_get l.views i ≡ Some v) × (v.seen ≡ history)
    pub counted : l.count ≡ length history
    pub in_slot : (b : B) → l.slot ≡ Some b → (base b ≡ lock_base) × (entries b ≡ history)
    pub in_hand : (i : ℕ) (v : PassView) → slice_get l.views i ≡ Some v → v.phase ≡ Turn → v.hand ≡ (lock_base, history)
    -- What a pass has seen goes on from the opening, has just the entries there that are its own, and begins the history. One that has read has seen it all.
    pub seen : (i : ℕ) (v : PassView) → slice_get l.views i ≡ Some v → (made : List Entry) × (v.seen ≡ opened ++ made) × (written_by v.number made ≡ v.mine) × Begins history v.seen
    pub read : (i : ℕ) (v : PassView) → slice_get l.views i ≡ Some v → IsTrue (has_read v.phase) → v.seen ≡ history
    pub unchanged : (i : ℕ) (v : PassView) → slice_get l.views i ≡ Some v → (v.opened ≡ opened) × (v.base ≡ lock_base)
    -- Passes have different numbers, from 0 up to the number of those that pass 0 has split off, and no other pass has split off any.
    pub first : (i : ℕ) × (v : PassView) × (slice_get l.views i ≡ Some v) × (v.number ≡ 0)
    pub numbered : (i j : ℕ) (v w : PassView) → slice_get l.views i ≡ Some v → slice_get l.views j ≡ Some w → v.number ≡ w.number → i ≡ j
    pub within : (i j : ℕ) (v w : PassView) → slice_get l.views i ≡ Some v → slice_get l.views j ≡ Some w → w.number ≡ 0 → v.number ≤ w.splits
    pub alone : (i : ℕ) (v : PassView) → slice_get l.views i ≡ Some v → v.number ≢ 0 → v.splits ≡ 0
    -- Each entry behind the opening is of a pass. Those of one pass are what it calls its own, and their turns never fall and are at most its turns.
    pub added : List Entry
    pub begins : history ≡ opened ++ added
    pub signed : All (λ e. (i : ℕ) × (v : PassView) × (slice_get l.views i ≡ Some v) × (v.number ≡ e.author)) added
    pub mine : (i : ℕ) (v : PassView) → slice_get l.views i ≡ Some v → written_by v.number added ≡ v.mine
    pub timed : (i : ℕ) (v : PassView) → slice_get l.views i ≡ Some v → IsNonDecreasingBy (λ e. e.turn) v.mine × All (λ e. e.turn ≤ v.turns) v.mine
