-- What contracts see of a pass, and what a call makes of it.
use Rattle.std.specs.Prelude.{◌≡◌, ℕ, ◌+◌, ℤ, List, [], ◌++◌, Option}
use Rattle.atomic_table.specs.Seated.{TableId}
use Rattle.spec_books.specs.Acting.{Acts}
use Rattle.spec_history.specs.Base.{Base}
use Rattle.account_lock.specs.Lock.{PassView}
use Rattle.account_lock.specs.declared.lock.Phase.{Phase}
use Rattle.account_lock.specs.declared.lock.Phase.TheVariants.{Idle}
use Rattle.spec_history.specs.declared.entry.Entry.{Entry}
use Rattle.spec_history.specs.declared.stamp.Stamp.{Stamp}
use Rattle.spec_history.specs.Signed.{Extends}

-- a pass as its owner sees it
pub record PassState : Type 0 where
  -- which lock it is of, and that lock's base
  pub lock : TableId
  pub base : Base
  pub number : ℕ
  -- the calls that it has made
  pub turns : ℕ
  -- where it stands in a call: outside of one it is idle
  pub phase : Phase
  -- the history, as far as it knows it, and the entries in it that its own calls added
  pub seen : List Entry
  pub mine : List Entry

abbrev pub pass_state : TableId → PassView → PassState
pass_state lock v = record { lock = lock; base = v.base; number = v.number; turns = v.turns; phase = v.phase; seen = v.seen; mine = v.mine }

-- pass number k of a lock that was opened with a book of these entries
abbrev pub opened_pass : TableId → Base → List Entry → ℕ → PassState
opened_pass lock base opened k = record { lock = lock; base = base; number = k; turns = 0; phase = Idle; seen = opened; mine = [] }

-- the stamp of the pass's next call
abbrev pub next_stamp : PassState → ℤ → Stamp
next_stamp p moment = record { author = p.number; turn = p.turns + 1; moment = moment }

module _ {C R : Type 0} (answer : Base → List Entry → C → ℤ → R) (added : Base → List Entry → C → Stamp → List Entry) (unkept : Option (List Entry → R)) where
  -- The reply is the book's at a history that begins with what the pass had seen, with no entry of the pass between; or it tells there that what the call adds could not be
  -- kept. The pass has then seen that history with what came of the call.
  pub record IsAnswered (call : C) (moment : ℤ) (reply : R) (old new : PassState) : Type 0 where
    pub history : List Entry
    pub begins : Extends old.number old.seen history
    pub came : List Entry
    pub acts : Acts answer added unkept old.base history call (next_stamp old moment) reply came
    pub new_state : new ≡ record old { turns = old.turns + 1; seen = history ++ came; mine = old.mine ++ came }

-- The call took its turn and added nothing: the pass may have seen entries of others.
pub record HasFailed (old new : PassState) : Type 0 where
  pub begins : Extends old.number old.seen new.seen
  pub new_state : new ≡ record old { turns = old.turns + 1; seen = new.seen }
