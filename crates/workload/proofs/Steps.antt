-- Requests one after the other.
use Rattle.std.proofs.Common.{◌≡◌, ◌≤◌, ◌<◌, ◌+◌, ◌-◌, ℕ, suc, ℤ, pos, List, [], ◌∷◌, Bool, true, false, cond, arith, refl, sym, ap, ◌∙◌, subst}
use mir.Val.{bool_byte}
use Rattle.std.specs.Prelude.{count_by}
use Rattle.std.proofs.lemmas.Bool.{cond_both}
use Rattle.std.proofs.lemmas.List.Sums.{sum_by-cons}
use Rattle.spec_calls.specs.declared.call.Call.{Call}
use Rattle.spec_calls.specs.declared.call.Reply.{Reply}
use Rattle.spec_history.specs.Base.{Base}
use Rattle.spec_history.specs.declared.entry.Entry.{Entry}
use Rattle.spec_history.specs.declared.stamp.Stamp.{Stamp}
use Rattle.workload.specs.Counts.{is_refused_as_clash, has_created}
use Rattle.workload.specs.Generated.{drawn, request_call, request_calls}
use Rattle.workload.specs.Work.{with_call, with_calls, replies}

-- one is counted where the first passes
counted : (p : Reply → Bool) (r : Reply) (rs : List Reply) (n all : ℕ) → n + count_by p (r ∷ rs) ≡ all → (n + cond (p r) 1 0) + count_by p rs ≡ all
counted p r rs n all h =
    let c : count_by p (r ∷ rs) ≡ cond (p r) 1 0 + count_by p rs = sum_by-cons (λ y. cond (p y) 1 0) r rs in
    omega (arith, c, h)

module _ (answer : Base → List Entry → Call → ℤ → Reply) (added : Base → List Entry → Call → Stamp → List Entry) (base : Base) where
  -- what was counted before these calls, with what is counted of their replies, is what is counted of all these; and behind them stands this history
  pub record Standing (all : List Reply) (end : List Entry) (turn : ℕ) (h : List Entry) (calls : List Call) (booked refused : ℕ) : Type 0 where
    pub bookings : booked + count_by has_created (replies answer added base turn h calls) ≡ count_by has_created all
    pub clashes : refused + count_by is_refused_as_clash (replies answer added base turn h calls) ≡ count_by is_refused_as_clash all
    pub behind_all : with_calls answer added base turn h calls ≡ end

  -- the first of the calls was made
  stands_behind : {all : List Reply} {end : List Entry} (turn : ℕ) (h : List Entry) (c : Call) (cs : List Call) (booked refused : ℕ) → Standing all end turn h (c ∷ cs) booked refused
      → Standing all end (suc turn) (with_call answer added base turn h c) cs (booked + cond (has_created (answer base h c (pos 0))) 1 0) (refused + cond (is_refused_as_clash (answer base h c (pos 0))) 1 0)
  stands_behind {all} {end} turn h c cs booked refused s = record {
    bookings = counted has_created (answer base h c (pos 0)) (replies answer added base (suc turn) (with_call answer added base turn h c) cs) booked (count_by has_created all) s.bookings;
    clashes = counted is_refused_as_clash (answer base h c (pos 0)) (replies answer added base (suc turn) (with_call answer added base turn h c) cs) refused (count_by is_refused_as_clash all) s.clashes;
    behind_all = s.behind_all;
  }

  -- the requests that are left are one less
  abbrev pub left : ℕ → ℕ → ℕ → List Call
  left size done last = request_calls (done + 1) last (size - done)

  one_less : (size done last : ℕ) → done < size → left size done last ≡ request_call (done + 1) (drawn last) (drawn (drawn last)) (drawn (drawn (drawn last))) ∷ left size (done + 1) (drawn (drawn (drawn last)))
  one_less size done last h =
      let more : size - done ≡ suc (size - (done + 1)) = omega (arith, h) in
      let next : suc (done + 1) ≡ done + 1 + 1 = omega arith in
      let call : Call = request_call (done + 1) (drawn last) (drawn (drawn last)) (drawn (drawn (drawn last))) in
      ap (request_calls (done + 1) last) more ∙ ap (λ (n : ℕ). call ∷ request_calls n (drawn (drawn (drawn last))) (size - (done + 1))) next

  -- a request was made: by the call c, whose draws are these, with this reply, and the history behind it
  pub stands_next : {all : List Reply} {end : List Entry} (size done last x turn : ℕ) (h h' : List Entry) (base' : Base) (c : Call) (r : Reply) (booked refused one other : ℕ) → done < size → base' ≡ base → turn ≡ done + 2
      → x ≡ drawn (drawn (drawn last)) → c ≡ request_call (done + 1) (drawn last) (drawn (drawn last)) (drawn (drawn (drawn last)))
      → r ≡ answer base' h c (pos 0) → h' ≡ with_call answer added base' turn h c → one ≡ cond (has_created r) 1 0 → other ≡ cond (is_refused_as_clash r) 1 0
      → Standing all end (done + 2) h (left size done last) booked refused → Standing all end (done + 1 + 2) h' (left size (done + 1) x) (booked + one) (refused + other)
  stands_next {all} {end} size done last x turn h h' base' c r booked refused one other more same turn_is drawn_is call_is reply_is grown one_is other_is s =
      let request : Call = request_call (done + 1) (drawn last) (drawn (drawn last)) (drawn (drawn (drawn last))) in
      let first : Standing all end (done + 2) h (request ∷ left size (done + 1) (drawn (drawn (drawn last)))) booked refused = subst (λ (cs : List Call). Standing all end (done + 2) h cs booked refused) (one_less size done last more) s in
      let next = stands_behind (done + 2) h request (left size (done + 1) (drawn (drawn (drawn last)))) booked refused first in
      let turn_next : suc (done + 2) ≡ done + 1 + 2 = omega arith in
      let replied : r ≡ answer base h request (pos 0) = reply_is ∙ (λ i. answer (same i) h (call_is i) (pos 0)) in
      let history_is : h' ≡ with_call answer added base (done + 2) h request = grown ∙ (λ i. with_call answer added (same i) (turn_is i) h (call_is i)) in
      let one_more : one ≡ cond (has_created (answer base h request (pos 0))) 1 0 = one_is ∙ ap (λ (reply : Reply). cond (has_created reply) 1 0) replied in
      let other_more : other ≡ cond (is_refused_as_clash (answer base h request (pos 0))) 1 0 = other_is ∙ ap (λ (reply : Reply). cond (is_refused_as_clash reply) 1 0) replied in
      subst (λ (y : ℕ × List Entry × ℕ × ℕ × ℕ). Standing all end y.0 y.1 (left size (done + 1) y.2) (booked + y.3) (refused + y.4))
      (λ i. (turn_next i, sym history_is i, sym drawn_is i, sym one_more i, sym other_more i)) next

  -- nothing was counted before all of them
  pub stands_first : (size last : ℕ) (h : List Entry) → Standing (replies answer added base 2 h (request_calls 1 last size)) (with_calls answer added base 2 h (request_calls 1 last size)) 2 h (left size 0 last) 0 0
  stands_first size last h =
      let none : size ≡ size - 0 = omega arith in
      subst (λ (n : ℕ). Standing (replies answer added base 2 h (request_calls 1 last size)) (with_calls answer added base 2 h (request_calls 1 last size)) 2 h (request_calls 1 last n) 0 0) none
      (record { bookings = omega arith; clashes = omega arith; behind_all = refl })

  -- nothing is left behind the last
  pub stands_last : {all : List Reply} {end : List Entry} (size last : ℕ) (h : List Entry) (booked refused : ℕ) → Standing all end (size + 2) h (left size size last) booked refused
      → (booked ≡ count_by has_created all) × (refused ≡ count_by is_refused_as_clash all) × (h ≡ end)
  stands_last {all} {end} size last h booked refused s =
      let none : size - size ≡ 0 = omega arith in
      let last_of : Standing all end (size + 2) h [] booked refused = subst (λ (n : ℕ). Standing all end (size + 2) h (request_calls (size + 1) last n) booked refused) none s in
      let b = last_of.bookings in
      let c = last_of.clashes in
      (omega (arith, b), omega (arith, c), last_of.behind_all)

-- a truth as a number
pub as_number : (b : Bool) → bool_byte b ≡ cond b 1 0
as_number true = refl
as_number false = refl

-- at most one is counted of each
pub counts_one : (n one done : ℕ) (b : Bool) → n ≤ done → one ≡ cond b 1 0 → n + one ≤ done + 1
counts_one n one done b few is = let o = cond_both b 1 0 (λ n. n ≤ 1) (λ h. omega arith) (λ h. omega arith) in omega (arith, few, is, o)
