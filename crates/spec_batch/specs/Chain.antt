-- What the calls that one desk answers say of the histories of its accounts, whatever others add to these.
use Rattle.std.specs.Prelude.{◌≡◌, ◌≢◌, ◌⊎◌, ℕ, ℤ, ◌+◌, ◌<◌, ◌≤◌, ◌==◌, List, [], ◌∷◌, length, take, drop, filter, flat_map, ◌++◌, Option, IfSome, Result, Ok, Err}
use Rattle.spec_books.specs.Acting.{Acts}
use Rattle.spec_history.specs.Base.{Base}
use Rattle.spec_history.specs.MostTurns.{most_turns}
use Rattle.spec_history.specs.Signed.{AreSigned, written_by, Begins, Extends}
use Rattle.spec_calls.specs.declared.call.Call.{Call}
use Rattle.spec_calls.specs.declared.call.Reply.{Reply}
use Rattle.spec_batch.specs.declared.desk.DeskError.{DeskError}
use Rattle.spec_batch.specs.declared.desk.DeskError.TheVariants.{PassSpent, NoMemory}
use Rattle.spec_batch.specs.declared.desk.Front.{Front}
use Rattle.spec_history.specs.declared.entry.Entry.{Entry}
use Rattle.spec_history.specs.declared.stamp.Stamp.{Stamp}

-- What is replied to a call at a history, at a moment, and the entries that the call adds. Who calls has no part in the reply.
pub record Rules : Type 0 where
  pub answer : Base → List Entry → Call → ℤ → Reply
  pub added : Base → List Entry → Call → Stamp → List Entry
  -- what is replied at a history where the entries of a call could not be kept: None where the entries of every call are
  pub unkept : Option (List Entry → Reply)
  -- a reply says how many entries went before, and what is added carries its author and its turn
  pub placed : (b : Base) (h : List Entry) (c : Call) (moment : ℤ) → (answer b h c moment).place ≡ length h
  pub unkept_placed : IfSome unkept (λ f. (h : List Entry) → (f h).place ≡ length h)
  pub signed : (b : Base) (h : List Entry) (c : Call) (s : Stamp) → AreSigned s.author s.turn (added b h c s)

-- what contracts see of a desk
pub record Shown : Type 0 where
  pub accounts : ℕ
  -- by what its accounts reply and grow
  pub rules : Rules
  -- how many calls it has made
  pub turns : ℕ
  -- of each account its base, the entries that the desk knows, the author number that it signs with, and its last turn
  pub base : ℕ → Base
  pub seen : ℕ → List Entry
  pub author : ℕ → ℕ
  pub last : ℕ → ℕ

-- A call that a desk answered, and the entries that came of it. Its reply says how many entries of the account's history went before.
pub record Made : Type 0 where
  pub account : ℕ
  pub turn : ℕ
  pub call : Call
  pub moment : ℤ
  pub reply : Reply
  pub came : List Entry

abbrev pub front_of : Made → Front
front_of m = record { account = m.account; place = m.reply.place }

-- the calls on one account
abbrev pub on : ℕ → List Made → List Made
on k ms = filter (λ m. m.account == k) ms

-- a call on account k left all that isn't of this account
pub record StaysBeside (s t : Shown) (k : ℕ) : Type 0 where
  pub accounts : t.accounts ≡ s.accounts
  pub rules : t.rules ≡ s.rules
  pub turns : t.turns ≡ s.turns + 1
  pub base : (j : ℕ) → t.base j ≡ s.base j
  pub author : (j : ℕ) → t.author j ≡ s.author j
  pub seen : (j : ℕ) → j ≢ k → t.seen j ≡ s.seen j
  pub last : (j : ℕ) → j ≢ k → s.last j ≤ t.last j

-- The call was answered at a history that begins with what the desk knew, with no entry of the desk's between, and the desk knows that history with what came of the call.
pub record Answered (s t : Shown) (k : ℕ) (call : Call) (moment : ℤ) (reply : Reply) : Type 0 where
  pub beside : StaysBeside s t k
  pub history : List Entry
  pub begins : Extends (s.author k) (s.seen k) history
  pub later : s.last k < t.last k
  pub came : List Entry
  pub acts : Acts s.rules.answer s.rules.added s.rules.unkept (s.base k) history call (record { author = s.author k; turn = t.last k; moment = moment }) reply came
  pub seen : t.seen k ≡ history ++ came

-- The call found no memory and added nothing.
pub record Missed (s t : Shown) (k : ℕ) : Type 0 where
  pub beside : StaysBeside s t k
  pub begins : Extends (s.author k) (s.seen k) (t.seen k)
  pub later : s.last k ≤ t.last k

-- what a call on account k makes of a desk
abbrev pub Called : Shown → Shown → ℕ → Call → ℤ → Result Reply DeskError → Type 0
Called s t k call moment (Ok reply) = (s.turns < most_turns) × Answered s t k call moment reply
Called s t k call moment (Err NoMemory) = (s.turns < most_turns) × Missed s t k
Called s t k call moment (Err PassSpent) = (s.turns ≡ most_turns) × (t ≡ s)

-- a call that a desk answered, in this state, and left that one, where behind the entries that went before stands what came of it
abbrev pub IsStep : Shown → Shown → Made → Type 0
IsStep s t m = Called s t m.account m.call m.moment (Ok m.reply) × (t.last m.account ≡ m.turn) × (drop m.reply.place (t.seen m.account) ≡ m.came)

-- These are all calls that a desk answered between two of its states, in order, each in the state that the one before it left. What others add
-- comes to a state with the next call alone.
abbrev pub Chain : Shown → Shown → List Made → Type 0
Chain s t [] = t ≡ s
Chain s t (m ∷ ms) = (u : Shown) × IsStep s u m × Chain u t ms

-- Why a desk answered no more in a state, and what it left: memory ran out and the desk wasn't asked; or it was asked for one of these calls, at this moment, and
-- didn't answer it for this reason.
abbrev pub Stops : (ℕ → Call → Type 0) → ℤ → DeskError → Shown → Shown → Type 0
Stops these moment e s t = ((e ≡ NoMemory) × (t ≡ s)) ⊎ ((account : ℕ) × (call : Call) × these account call × Called s t account call moment (Err e))

-- ---- what follows of a chain

module _ (rules : Rules) (base : Base) (author : ℕ) where
  abbrev pub stamp_of : Made → Stamp
  stamp_of m = record { author = author; turn = m.turn; moment = m.moment }

  -- A call stands in the history h: it acts at a prefix, which is at least `from` long, and what came of it comes next. Its turn is above `late`.
  pub record Stands (h : List Entry) (from late : ℕ) (m : Made) : Type 0 where
    pub low : from ≤ m.reply.place
    pub within : m.reply.place ≤ length h
    pub acts : Acts rules.answer rules.added rules.unkept base (take m.reply.place h) m.call (stamp_of m) m.reply m.came
    pub follows : Begins (drop m.reply.place h) m.came
    pub later : late < m.turn

  -- The calls stand in the history h one behind the other, each with a later turn than the one before, the last at most `upto`.
  abbrev pub Stand : List Entry → ℕ → ℕ → ℕ → List Made → Type 0
  Stand h from late upto [] = late ≤ upto
  Stand h from late upto (m ∷ ms) = Stands h from late m × Stand h (m.reply.place + length m.came) m.turn upto ms

  -- The history grew from `before` to `after`; the calls stand in it; and of the author's entries there came theirs, each once, and no other.
  pub record SummaryOn (before after : List Entry) (late upto : ℕ) (ms : List Made) : Type 0 where
    pub grows : Begins after before
    pub stand : Stand after (length before) late upto ms
    pub own : written_by author (drop (length before) after) ≡ flat_map (λ m. m.came) ms

-- What a chain comes to in the histories of all accounts.
pub record Summary (s t : Shown) (ms : List Made) : Type 0 where
  pub accounts : t.accounts ≡ s.accounts
  pub rules : t.rules ≡ s.rules
  pub base : (k : ℕ) → t.base k ≡ s.base k
  pub author : (k : ℕ) → t.author k ≡ s.author k
  pub each : (k : ℕ) → SummaryOn s.rules (s.base k) (s.author k) (s.seen k) (t.seen k) (s.last k) (t.last k) (on k ms)
