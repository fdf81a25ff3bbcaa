-- What a workload comes to on an account.
use Rattle.std.specs.Prelude.{◌≡◌, ◌⊎◌, ◌≤◌, ◌<◌, ◌^◌, ℕ, suc, ℤ, pos, List, [], ◌∷◌, ◌++◌, Some, None, codes, count_by, length, map, sum}
use Rattle.spec_calls.specs.declared.call.Call.{Call}
use Rattle.spec_calls.specs.declared.call.Reply.{Reply}
use Rattle.spec_history.specs.Base.{Base}
use Rattle.spec_history.specs.declared.entry.Entry.{Entry}
use Rattle.spec_history.specs.declared.stamp.Stamp.{Stamp}
use Rattle.workload.specs.Counts.{count_of_ids, is_refused_as_clash, has_created, lines, next_page_state, state_number}
use Rattle.workload.specs.Generated.{page_call, request_calls, room_call}
use Rattle.workload.specs.declared.numbers.Numbers.{Numbers}

-- by what an account replies and how it grows, each call at the moment 0
module _ (answer : Base → List Entry → Call → ℤ → Reply) (added : Base → List Entry → Call → Stamp → List Entry) (base : Base) where
  abbrev pub stamp : ℕ → Stamp
  stamp turn = record { author = 0; turn = turn; moment = pos 0 }

  -- the history behind a call of this turn
  abbrev pub with_call : ℕ → List Entry → Call → List Entry
  with_call turn h call = h ++ added base h call (stamp turn)

  -- the history behind calls one after the other, the first of this turn
  abbrev pub with_calls : ℕ → List Entry → List Call → List Entry
  with_calls turn h [] = h
  with_calls turn h (c ∷ cs) = with_calls (suc turn) (with_call turn h c) cs

  -- the replies to them
  abbrev pub replies : ℕ → List Entry → List Call → List Reply
  replies turn h [] = []
  replies turn h (c ∷ cs) = answer base h c (pos 0) ∷ replies (suc turn) (with_call turn h c) cs

  -- These are the pages of changes from a state on: each since the state that the one before it gives, until one has no more changes.
  abbrev pub ArePages : List Entry → List ℕ → List Reply → Type 0
  ArePages h since [] = ⊥
  ArePages h since (r ∷ rs) =
      (r ≡ answer base h (page_call since) (pos 0)) × (((state : List ℕ) × (next_page_state r ≡ Some state) × ArePages h state rs) ⊎ ((next_page_state r ≡ None) × (rs ≡ [])))

  -- The room is created and the requests are made; these are the numbers of what came of it: of events created and refused as a clash, of the account's entries,
  -- and of the ids in all pages.
  pub record IsWork (h : List Entry) (number size : ℕ) (n : Numbers) : Type 0 where
    pub bookings : n.bookings ≡ count_by has_created (replies 2 (with_call 1 h room_call) (request_calls 1 number size))
    pub clashes : n.clashes ≡ count_by is_refused_as_clash (replies 2 (with_call 1 h room_call) (request_calls 1 number size))
    pub entries : n.entries ≡ length (with_calls 1 h (room_call ∷ request_calls 1 number size))
    pub pages : List Reply
    pub are_pages : ArePages (with_calls 1 h (room_call ∷ request_calls 1 number size)) (codes "0-0") pages
    pub changed : n.changed ≡ sum (map count_of_ids pages)

  -- these are the four lines
  abbrev pub IsOutput : List Entry → ℕ → ℕ → List ℕ → Type 0
  IsOutput h number size text = (n : Numbers) × IsWork h number size n × (text ≡ lines n)

-- What every book of accounts keeps: a call for a page adds nothing, a page has no more ids than are asked for, and one behind which there are more changes gets on.
pub record PagesLead (answer : Base → List Entry → Call → ℤ → Reply) (added : Base → List Entry → Call → Stamp → List Entry) : Type 0 where
  pub adds_nothing : (base : Base) (h : List Entry) (since : List ℕ) (s : Stamp) → added base h (page_call since) s ≡ []
  pub few : (base : Base) (h : List Entry) (since : List ℕ) → count_of_ids (answer base h (page_call since) (pos 0)) ≤ 500
  pub gets_on : (base : Base) (h : List Entry) (since state : List ℕ) → length h ≤ 2 ^ 40 → next_page_state (answer base h (page_call since) (pos 0)) ≡ Some state
      → (state_number since < state_number state) × (state_number state ≤ length h)
