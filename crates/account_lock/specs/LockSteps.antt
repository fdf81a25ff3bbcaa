-- The eight kinds of step of a ticket lock: what each makes of the view of the pass that steps, when it may come, and what it makes of the lock.
use Rattle.std.specs.Prelude.{◌≡◌, ◌≢◌, ℕ, ◌+◌, ◌<◌, List, [], ◌∷◌, ◌++◌, length, slice_get, slice_set, Some, None}
use Rattle.spec_history.specs.Base.{Base}
use Rattle.spec_history.specs.MostTurns.{most_turns}
use Rattle.spec_history.specs.Signed.{AreSigned}
use Rattle.account_lock.specs.Lock.{PassView, TicketLock}
use Rattle.spec_history.specs.declared.entry.Entry.{Entry}
use Rattle.account_lock.specs.declared.lock.Phase.TheVariants.{Idle, Waits, Turn, Read, Done}

-- the view of a pass that took this ticket
abbrev pub with_ticket : PassView → ℕ → PassView
with_ticket v ticket = record v { phase = Waits; turns = v.turns + 1; ticket = ticket }

-- of one that found its ticket served, and took the slot with the book of this base and these entries
abbrev pub with_turn : PassView → Base → List Entry → PassView
with_turn v base entries = record v { phase = Turn; hand = (base, entries) }

-- of one that read the count, with the book in hand
abbrev pub having_read : PassView → PassView
having_read v = record v { phase = Read; seen = v.hand.1 }

-- of one that added these entries
abbrev pub having_added : PassView → List Entry → PassView
having_added v added = record v { phase = Done; seen = v.seen ++ added; mine = v.mine ++ added }

-- of one that gave back the slot and the turn
abbrev pub out_of_line : PassView → PassView
out_of_line v = record v { phase = Idle }

-- of a pass that has made no call, of a lock opened with these entries and this base
abbrev pub new_pass : ℕ → List Entry → Base → PassView
new_pass number opened base = record { number = number; splits = 0; turns = 0; phase = Idle; ticket = 0; seen = opened; mine = []; hand = (base, opened); opened = opened; base = base }

-- of the one that split off another, and of that other
abbrev pub having_split : PassView → PassView
having_split v = record v { splits = v.splits + 1 }

abbrev pub split_off : PassView → PassView
split_off v = new_pass (v.splits + 1) v.opened v.base

-- the kinds, with the entries that a step adds and the book that it has in hand
pub data StepKind (B : Type 0) : Type 0 where
  takes_ticket : StepKind B
  looks : StepKind B
  takes_book : StepKind B
  reads_count : StepKind B
  adds_entries : List Entry → StepKind B
  returns_book : B → StepKind B
  gives_turn : B → StepKind B
  splits_pass : StepKind B

module _ {B : Type 0} (entries : B → List Entry) (base : B → Base) where
  -- when a step of a kind may come, by the view of the pass that steps
  abbrev pub MayCome : StepKind B → PassView → Type 0
  MayCome takes_ticket v = (v.phase ≡ Idle) × (v.turns < most_turns)
  MayCome looks v = v.phase ≡ Waits
  MayCome takes_book v = v.phase ≡ Turn
  MayCome reads_count v = v.phase ≡ Turn
  MayCome (adds_entries added) v = (v.phase ≡ Read) × AreSigned v.number v.turns added
  MayCome (returns_book b) v = (v.phase ≡ Done) × (entries b ≡ v.seen) × (base b ≡ v.base)
  MayCome (gives_turn b) v = (v.phase ≡ Done) × (entries b ≡ v.seen) × (base b ≡ v.base)
  MayCome splits_pass v = (v.number ≡ 0) × (v.splits + 1 < 256)

  -- What a step of a kind finds in the lock and makes of it, the view being the i-th. All else stays. From a look that finds the ticket until the turn is given the slot is with the pass: to take the book out and to return it changes what that has in hand, and not the lock.
  abbrev pub ChangesLock : StepKind B → ℕ → PassView → TicketLock B → TicketLock B → Type 0
  ChangesLock takes_ticket i v l m = m ≡ record l { ticket = l.ticket + 1; views = slice_set l.views i (with_ticket v l.ticket) }
  ChangesLock looks i v l m = (l.serving ≢ v.ticket → m ≡ l) × (l.serving ≡ v.ticket → (b : B) × (l.slot ≡ Some b) × (m ≡ record l { slot = None; views = slice_set l.views i (with_turn v (base b) (entries b)) }))
  ChangesLock takes_book i v l m = (l.slot ≡ None) × (m ≡ l)
  ChangesLock reads_count i v l m = (l.count ≡ length v.hand.1) × (m ≡ record l { views = slice_set l.views i (having_read v) })
  ChangesLock (adds_entries added) i v l m = m ≡ record l { count = l.count + length added; views = slice_set l.views i (having_added v added) }
  ChangesLock (returns_book b) i v l m = (l.slot ≡ None) × (m ≡ l)
  ChangesLock (gives_turn b) i v l m = (l.slot ≡ None) × (l.count ≡ length v.seen) × (m ≡ record l { serving = l.serving + 1; slot = Some b; views = slice_set l.views i (out_of_line v) })
  ChangesLock splits_pass i v l m = m ≡ record l { views = slice_set l.views i (having_split v) ++ split_off v ∷ [] }

  -- a step of one pass
  abbrev pub IsLockStep : TicketLock B → TicketLock B → Type 0
  IsLockStep l m = (kind : StepKind B) × (i : ℕ) × (v : PassView) × (slice_get l.views i ≡ Some v) × MayCome kind v × ChangesLock kind i v l m

  module _ (opened : List Entry) (lock_base : Base) where
    abbrev pub IsOpened : TicketLock B → Type 0
    IsOpened l = (b : B) × (entries b ≡ opened) × (base b ≡ lock_base) × (l ≡ record { ticket = 0; serving = 0; count = length opened; slot = Some b; views = new_pass 0 opened lock_base ∷ [] })

    -- steps lead to the lock from the opened one, by way of these, the last one first
    abbrev pub IsReachedBy : List (TicketLock B) → TicketLock B → Type 0
    IsReachedBy [] l = IsOpened l
    IsReachedBy (k ∷ ks) l = IsLockStep k l × IsReachedBy ks k

    abbrev pub IsReached : TicketLock B → Type 0
    IsReached l = (ks : List (TicketLock B)) × IsReachedBy ks l
