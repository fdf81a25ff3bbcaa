-- The turns of what came to the accounts.
use Rattle.std.proofs.Common.{◌≡◌, ◌≤◌, ◌<◌, ◌+◌, ◌∷◌, ◌==◌, [], ℕ, zero, suc, List, drop, take, flat_map, length, refl, sym, ◌∙◌, subst, arith}
use Rattle.std.proofs.Math.ListN.{get_or}
use Rattle.std.proofs.lemmas.List.Elements.{All-append, All-cons, All-nil}
use Rattle.std.specs.Prelude.{All}
use Rattle.account_desk.specs.FreshDesk.{IsSole}
use Rattle.account_desk.specs.SoleDesk.{account_at, shown_of}
use Rattle.kept_run.proofs.OpenLemmas.{rest_own}
use Rattle.kept_run.proofs.TextLemmas.{no_account}
use Rattle.kept_run.specs.Lines.{Accounts, counts}
use Rattle.kept_run.specs.Steps.{HaveTurns}
use Rattle.spec_batch.proofs.Chains.{summary}
use Rattle.spec_batch.specs.Chain.{Chain, Made, Rules, Stand, on, stamp_of}
use Rattle.spec_books.proofs.ActLemmas.{came_signed}
use Rattle.spec_history.specs.Base.{Base}
use Rattle.spec_history.specs.MostTurns.{most_turns}
use Rattle.spec_history.specs.Signed.{AreSigned, written_by}
use Rattle.spec_history.specs.declared.entry.Entry.{Entry}
use Rattle.spec_history.specs.declared.stamp.Stamp.{Stamp}

-- a turn that a call may have
abbrev pub IsTurn : Entry → Type 0
IsTurn e = e.turn ≤ most_turns

signed_turns : (author turn : ℕ) (es : List Entry) → AreSigned author turn es → turn ≤ most_turns → All IsTurn es
signed_turns author turn [] signed within = All-nil IsTurn
signed_turns author turn (e ∷ es) signed within =
    let is : e.turn ≡ turn = signed.1 in
    let here : e.turn ≤ most_turns = omega (arith, is, within) in
    All-cons IsTurn e es here (signed_turns author turn es signed.2 within)

abbrev came_of : List Made → List Entry
came_of ms = flat_map (λ (m : Made). m.came) ms

module _ (rules : Rules) (base : Base) (author : ℕ) (h : List Entry) where
  no_later : (from late upto : ℕ) (ms : List Made) → Stand rules base author h from late upto ms → late ≤ upto
  no_later from late upto [] stand = stand
  no_later from late upto (m ∷ ms) stand =
      let rest = no_later (m.reply.place + length m.came) m.turn upto ms stand.1 in
      let here = stand.0.later in
      omega (arith, rest, here)

  made_turns : (from late upto : ℕ) (ms : List Made) → Stand rules base author h from late upto ms → upto ≤ most_turns → All IsTurn (came_of ms)
  made_turns from late upto [] stand within = All-nil IsTurn
  made_turns from late upto (m ∷ ms) stand within =
      let next : ℕ = m.reply.place + length m.came in
      let last = no_later next m.turn upto ms stand.1 in
      let before : List Entry = take m.reply.place h in
      let stamp : Stamp = stamp_of rules base author m in
      let signed : AreSigned author m.turn m.came = came_signed rules.answer rules.added rules.unkept base before m.call stamp m.reply m.came (rules.signed base before m.call stamp) stand.0.acts in
      let here : All IsTurn m.came = signed_turns author m.turn m.came signed (omega (arith, last, within)) in
      All-append IsTurn m.came (came_of ms) here (made_turns next m.turn upto ms stand.1 within)

-- behind the first so many of a desk's own entries there are no others
own_behind : (es : List Entry) (place : ℕ) → written_by 0 es ≡ es → written_by 0 (drop place es) ≡ drop place es
own_behind es zero own = own
own_behind [] (suc place) own = refl
own_behind (e ∷ es) (suc place) own = own_behind es place (rest_own e es (e.author == 0) own).1

have_turns : (before after : List (Base × List Entry)) → ((k : ℕ) → All IsTurn (drop (length (account_at before k).1) (account_at after k).1)) → HaveTurns (counts before) after
have_turns [] after each = tt
have_turns (a ∷ before) [] each = tt
have_turns (a ∷ before) (b ∷ after) each = (each 0, have_turns before after (λ k. each (suc k)))

-- what calls added has the turns of the calls
pub turns_added : (before after : Accounts) (made : List Made) → Chain (shown_of before) (shown_of after) made → IsSole (shown_of after) → after.1 ≤ most_turns → HaveTurns (counts before.0) after.0
turns_added before after made chain sole within =
    let all = summary (shown_of before) (shown_of after) made chain in
    have_turns before.0 after.0 (λ k.
    let s = all.each k in
    let old : List Entry = (account_at before.0 k).1 in
    let new : List Entry = (account_at after.0 k).1 in
    subst (All IsTurn) (sym s.own ∙ own_behind new (length old) (sole k))
    (made_turns (shown_of before).rules (account_at before.0 k).0 0 new (length old) before.1 after.1 (on k made) s.stand within))

pub turns_at : (n : ℕ) (places : List ℕ) (accounts : List (Base × List Entry)) → n < length places → n < length accounts → HaveTurns places accounts → All IsTurn (drop (get_or places n 0) (get_or accounts n no_account).1)
turns_at n [] accounts a b h = absurd (omega arith)
turns_at n (p ∷ places) [] a b h = absurd (omega arith)
turns_at zero (p ∷ places) (x ∷ accounts) a b h = h.0
turns_at (suc n) (p ∷ places) (x ∷ accounts) a b h = turns_at n places accounts (omega arith) (omega arith) h.1
