-- Each step keeps the rule of the lock's table.
use Rattle.std.proofs.Common.{◌≡◌, ℕ, ◌+◌, ◌%◌, ◌^◌, ◌<◌, ◌≤◌, List, [], ◌∷◌, ◌++◌, length, set, get_or, sym, refl, ap, ◌∙◌, subst, inl, inr, ⊎_elim, arith, IsTrue, append-nil, Option, Some, None}
use Rattle.std.proofs.lemmas.Bool.{false≢true}
use mathlib.Core.Option.{none, some, some-ne-none}
use mathlib.Core.Logic.{dite}
use native.Mathlib.Decide.{ℕ_discrete}
use Rattle.atomic_table.specs.Table.{State, Me, Step, step, keeps, takes, gives, put_back, stepped, Allows, Splits, opening}
use Rattle.atomic_table.proofs.Lists.{at_longer, set_here, set_else, set_again}
use Rattle.spec_history.specs.Base.{Base}
use Rattle.spec_history.specs.MostTurns.{most_turns}
use Rattle.account_lock.specs.Lock.{PassView, TicketLock, in_line, has_turn, has_read}
use Rattle.account_lock.specs.LockSteps.{with_ticket, with_turn, having_read, having_added, out_of_line, new_pass, having_split, split_off, StepKind, MayCome, ChangesLock, IsReached}
use Rattle.account_lock.specs.LockSteps as kind
use Rattle.spec_history.specs.Signed.{AreSigned, Extends}
use Rattle.spec_history.specs.declared.entry.Entry.{Entry}
use Rattle.account_lock.specs.declared.lock.Phase.TheVariants.{Idle, Waits, Turn, Read, Done}
use Rattle.account_lock.specs.HistoryRule.{Knows, TurnsUpTo, TurnsRise}
use Rattle.account_lock.specs.Rule.{SlotHolds, RuleHolds, lock_at, slot_of}
use Rattle.account_lock.specs.StepNews.{looked, read_count, added_entries, left_line}
use Rattle.account_lock.specs.TicketRule.{At, TicketsHold}
use Rattle.account_lock.proofs.HistoryLemmas.{history_stays, history_read, history_grows, history_split, unseen_of_others}
use Rattle.account_lock.proofs.TicketLemmas.{tickets_few, turn_in_line, only_turn, passes_stay, passes_split, issue, tickets_stay, leave, tickets_split}
use Rattle.account_lock.proofs.ViewLemmas.{each_set, each_last, at_inside, same_at, get_from_at}

module _ {B : Type 0} (entries : B → List Entry) (base : B → Base) (o : List Entry) (z : Base) where
  -- what a step tells doesn't depend on its numbers
  abbrev some_step : Step (Option B)
  some_step = step 0 0 0 0 none

  abbrev Rule : State (Option B) PassView → Type 0
  Rule = RuleHolds entries base o z

  abbrev TurnIsTaken : List PassView → Type 0
  TurnIsTaken vs = (i : ℕ) × (v : PassView) × At vs i v × IsTrue (has_turn v.phase)

  abbrev NoTurnIsTaken : List PassView → Type 0
  NoTurnIsTaken vs = (i : ℕ) (v : PassView) → At vs i v → IsTrue (has_turn v.phase) → ⊥

  taken_stays : (vs : List PassView) (id : ℕ) (v w : PassView) → TurnIsTaken vs → At vs id v → has_turn w.phase ≡ has_turn v.phase → TurnIsTaken (set vs id w)
  taken_stays vs id v w m at same = dite (ℕ_discrete m.0 id)
      (λ is. (id, w, set_here vs id w (at_inside vs id v at), same ∙ (ap (λ (u : PassView). has_turn u.phase) (sym (same_at vs m.0 id m.1 v is m.2 at)) ∙ m.3)))
      (λ other. (m.0, m.1, set_else vs id m.0 w other ∙ m.2, m.3))

  untaken_stays : (vs : List PassView) (id : ℕ) (v w : PassView) → NoTurnIsTaken vs → At vs id v → has_turn w.phase ≡ has_turn v.phase → NoTurnIsTaken (set vs id w)
  untaken_stays vs id v w free at same = each_set (λ i u. IsTrue (has_turn u.phase) → ⊥) vs id w (λ i u _ at'. free i u at') (λ turn. free id v at (sym same ∙ turn))

  -- the slot stays as it is, and so does whether the pass has the turn
  slot_stays : (h : List Entry) (s : State (Option B) PassView) (i n : ℕ) (id : ℕ) (me : Me (Option B) PassView) (w : PassView) → SlotHolds entries base z h s → At s.views id me.0
      → has_turn w.phase ≡ has_turn me.0.phase → SlotHolds entries base z h (stepped s i n id me.1 w keeps)
  slot_stays h s i n id me w slot at same = ⊎_elim
      (λ home. inl (home.0, home.1, home.2, home.3, untaken_stays s.views id me.0 w home.4 at same))
      (λ out. inr (out.0, taken_stays s.views id me.0 w out.1 at same))
      slot

  -- one step more
  one_more : (l m : TicketLock B) (k : StepKind B) (id : ℕ) (v : PassView) → IsReached entries base o z l → At l.views id v → MayCome entries base k v → ChangesLock entries base k id v l m → IsReached entries base o z m
  one_more l m k id v reached at may makes = (l ∷ reached.0, ((k, id, v, get_from_at l.views id v at, may, makes), reached.1))

  -- while a pass has the turn, the slot is out
  slot_is_out : (h : List Entry) (s : State (Option B) PassView) (id : ℕ) (v : PassView) → SlotHolds entries base z h s → At s.views id v → IsTrue (has_turn v.phase) → slot_of s.homes ≡ None
  slot_is_out h s id v slot at turn = ⊎_elim (λ home. absurd (home.4 id v at turn)) (λ out. ap slot_of out.0) slot

  only_view : (P : ℕ → PassView → Type 0) (v : PassView) → P 0 v → (i : ℕ) (u : PassView) → At (v ∷ []) i u → P i u
  only_view P v here i u at = each_last P [] v (λ i v at. absurd (some-ne-none v (sym at))) here i u at

  -- a table with a new book, and the first pass
  pub opens : (b : B) → base b ≡ z → entries b ≡ o → Rule (opening (0 ∷ 0 ∷ length o ∷ []) (Some b ∷ []) (new_pass 0 o z))
  opens b is_base is_entries =
      let v : PassView = new_pass 0 o z in
      let each = λ (P : ℕ → PassView → Type 0) (here : P 0 v). only_view P v here in
      record {
        ticket = 0;
        serving = 0;
        count = length o;
        words = refl;
        history = o;
        passes = record {
          few_turns = each (λ i u. u.turns ≤ most_turns) (omega arith);
          number = each (λ i u. u.number ≡ i) refl;
          alone = each (λ i u. 0 < i → u.splits ≡ 0) (λ _. refl);
          few_passes = λ u at. each (λ i u. (1 ≡ u.splits + 1) × (u.splits < 256)) (refl, omega arith) 0 u at;
          first = (v, refl);
        };
        tickets = record {
          issued = refl;
          waiting = refl;
          in_range = each (λ i u. IsTrue (in_line u.phase) → (0 ≤ u.ticket) × (u.ticket < 0)) (λ b. absurd (false≢true b));
          apart = λ i j a c ati atj ba bb e. each (λ i u. IsTrue (in_line u.phase) → i ≡ j) (λ b. absurd (false≢true b)) i a ati ba;
          met = λ k low high. absurd (omega arith);
          served = each (λ i u. IsTrue (has_turn u.phase) → u.ticket ≡ 0) (λ _. refl);
        };
        told = record {
          added = [];
          begins = sym (append-nil o);
          counted = refl;
          known = (0, v, refl, refl);
          seen = each (Knows o o) ([], sym (append-nil o), refl, ([], sym (append-nil o)));
          read = each (λ i u. IsTrue (has_read u.phase) → u.seen ≡ o) (λ _. refl);
          in_hand = each (λ i u. u.phase ≡ Turn → u.hand ≡ (z, o)) (λ _. refl);
          unchanged = each (λ i u. (u.opened ≡ o) × (u.base ≡ z)) (refl, refl);
          signed = tt;
          mine = each (λ i u. [] ≡ u.mine) refl;
          timed = each (λ i u. TurnsUpTo u.turns u.mine × TurnsRise u.mine) (tt, tt);
        };
        slot = inl (b, refl, is_base, is_entries, each (λ i u. IsTrue (has_turn u.phase) → ⊥) (λ b. absurd (false≢true b)));
        reached = ([], (b, is_entries, is_base, refl));
      }

  pub takes_ticket : (slots id : ℕ) (me : Me (Option B) PassView) → me.0.phase ≡ Idle → me.0.turns < most_turns
      → Allows Rule slots id me 0 (λ n. (n + 1) % 2 ^ 64) (λ r after. after ≡ (with_ticket me.0 r, me.1))
  takes_ticket slots id me idle less s r len at small =
      let k : ℕ = get_or s.words 0 0 in
      let is : k ≡ r.ticket = ap (λ (w : List ℕ). get_or w 0 0) r.words in
      let w : PassView = with_ticket me.0 k in
      let few = tickets_few r.ticket r.serving s.views r.tickets r.passes in
      let fits : (r.ticket + 1) % 2 ^ 64 ≡ r.ticket + 1 = omega arith in (
        w,
        keeps,
        tt,
        record {
          ticket = r.ticket + 1;
          serving = r.serving;
          count = r.count;
          words = ap (λ (x : List ℕ). set x 0 ((get_or x 0 0 + 1) % 2 ^ 64)) r.words ∙ ap (λ (x : ℕ). x ∷ r.serving ∷ r.count ∷ []) fits;
          history = r.history;
          passes = passes_stay s.views id me.0 w r.passes at refl refl (omega arith);
          tickets = subst (λ (x : ℕ). TicketsHold (r.ticket + 1) r.serving (set s.views id (with_ticket me.0 x))) (sym is) (issue r.ticket r.serving s.views id me.0 r.tickets at idle);
          told = history_stays o z r.history r.count s.views id me.0 w r.told at refl refl refl refl (omega arith) (λ read. absurd (false≢true read)) (λ turn. absurd (false≢true (ap has_turn turn)));
          slot = slot_stays r.history s 0 ((k + 1) % 2 ^ 64) id me w r.slot at (sym (ap has_turn idle));
          reached = one_more (lock_at r.ticket r.serving r.count s) (lock_at (r.ticket + 1) r.serving r.count (stepped s 0 ((k + 1) % 2 ^ 64) id me.1 w keeps)) kind.takes_ticket id me.0 r.reached at (idle, less)
              (ap (λ (x : ℕ). lock_at (r.ticket + 1) r.serving r.count (stepped s 0 ((k + 1) % 2 ^ 64) id me.1 (with_ticket me.0 x) keeps)) is);
        },
        refl,
      )

  -- a load that changes nothing
  nothing : (s : State (Option B) PassView) (id : ℕ) (me : Me (Option B) PassView) (r : Rule s) → At s.views id me.0 → Rule (stepped s 1 (get_or s.words 1 0) id me.1 me.0 keeps)
  nothing s id me r at =
      let same : set s.words 1 (get_or s.words 1 0) ≡ s.words = ap (λ (x : List ℕ). set x 1 (get_or x 1 0)) r.words ∙ sym r.words in
      subst (λ (y : List ℕ × List PassView). Rule (record { words = y.0; homes = s.homes; views = y.1 })) (λ k. (sym same k, sym (set_again s.views id me.0 at) k)) r

  pub looks : (slots id : ℕ) (me : Me (Option B) PassView) → me.0.phase ≡ Waits → Allows Rule slots id me 1 (λ n. n) (looked entries base some_step me)
  looks slots id me waits s r len at small =
      let k : ℕ = get_or s.words 1 0 in
      let is : k ≡ r.serving = ap (λ (w : List ℕ). get_or w 1 0) r.words in
      let waits_in_line : IsTrue (in_line me.0.phase) = ap in_line waits in
      dite (ℕ_discrete k me.0.ticket)
      (λ hit. ⊎_elim
      (λ home. let b : B = home.0 in let w : PassView = with_turn me.0 (base b) (entries b) in let same = (r.told.unchanged id me.0 at).1 in (
        w,
        takes 0 (Some b),
        rw home.1 refl,
        record {
          ticket = r.ticket;
          serving = r.serving;
          count = r.count;
          words = ap (λ (x : List ℕ). set x 1 (get_or x 1 0)) r.words;
          history = r.history;
          passes = passes_stay s.views id me.0 w r.passes at refl refl (r.passes.few_turns id me.0 at);
          tickets = tickets_stay r.ticket r.serving s.views id me.0 w r.tickets at refl refl (sym waits_in_line) (λ _. sym hit ∙ is);
          told = history_stays o z r.history r.count s.views id me.0 w r.told at refl refl refl refl (omega arith) (λ read. absurd (false≢true read)) (λ _. λ k. (home.2 k, home.3 k));
          slot = inr (ap (λ (x : List _). set x 0 none) home.1, (id, w, set_here s.views id w (at_inside s.views id me.0 at), refl));
          reached = one_more (lock_at r.ticket r.serving r.count s) (lock_at r.ticket r.serving r.count (stepped s 1 k id me.1 w (takes 0 (Some b)))) kind.looks id me.0 r.reached at waits
              ((λ not. absurd (not (sym is ∙ hit))), λ _. (b, ap slot_of home.1, ap (λ (x : List _). record (lock_at r.ticket r.serving r.count s) { slot = slot_of (set x 0 none); views = set s.views id w }) home.1));
        },
        ((λ _. (b, refl, home.2 ∙ sym same, subst (λ (x : ℕ × List Entry). Extends x.0 me.0.seen x.1) (λ k. (sym (r.passes.number id me.0 at) k, sym home.3 k)) (unseen_of_others o z r.history r.count s.views id me.0 r.told at))), λ not. absurd (not hit)),
      ))
      (λ out. let m = out.1 in absurd (
      let same : m.0 ≡ id = r.tickets.apart m.0 id m.1 me.0 m.2 at (turn_in_line m.1.phase m.3) waits_in_line (r.tickets.served m.0 m.1 m.2 m.3 ∙ (sym is ∙ hit)) in
      false≢true (sym (ap has_turn waits) ∙ (ap (λ (u : PassView). has_turn u.phase) (sym (same_at s.views m.0 id m.1 me.0 same m.2 at)) ∙ m.3))
      ))
      r.slot)
      (λ miss. (me.0, keeps, tt, nothing s id me r at, ((λ hit. absurd (miss hit)), λ _. refl)))

  pub reads : (slots id : ℕ) (me : Me (Option B) PassView) → me.0.phase ≡ Turn → Allows Rule slots id me 2 (λ n. n) (read_count some_step me)
  reads slots id me turn s r len at small =
      let k : ℕ = get_or s.words 2 0 in
      let is : k ≡ r.count = ap (λ (w : List ℕ). get_or w 2 0) r.words in
      let w : PassView = having_read me.0 in
      let in_turn : IsTrue (has_turn me.0.phase) = ap has_turn turn in
      let whole : r.count ≡ length me.0.hand.1 = r.told.counted ∙ ap (λ (x : Base × List Entry). length x.1) (sym (r.told.in_hand id me.0 at turn)) in (
        w,
        keeps,
        tt,
        record {
          ticket = r.ticket;
          serving = r.serving;
          count = r.count;
          words = ap (λ (x : List ℕ). set x 2 (get_or x 2 0)) r.words;
          history = r.history;
          passes = passes_stay s.views id me.0 w r.passes at refl refl (r.passes.few_turns id me.0 at);
          tickets = tickets_stay r.ticket r.serving s.views id me.0 w r.tickets at refl refl (sym (ap in_line turn)) (λ _. r.tickets.served id me.0 at in_turn);
          told = history_read o z r.history r.count s.views id me.0 r.told at turn;
          slot = slot_stays r.history s 2 k id me w r.slot at (sym in_turn);
          reached = one_more (lock_at r.ticket r.serving r.count s) (lock_at r.ticket r.serving r.count (stepped s 2 k id me.1 w keeps)) kind.reads_count id me.0 r.reached at turn (whole, refl);
        },
        (refl, is ∙ whole),
      )

  pub adds : (slots id : ℕ) (me : Me (Option B) PassView) (k : ℕ) (xs : List Entry) → me.0.phase ≡ Read → k ≡ length xs → length me.0.seen + length xs < 2 ^ 64 → AreSigned me.0.number me.0.turns xs
      → Allows Rule slots id me 2 (λ n. (n + k) % 2 ^ 64) (added_entries xs some_step me)
  adds slots id me k xs read is_k small signed s r len at _ =
      let w : PassView = having_added me.0 xs in
      let in_turn : IsTrue (has_turn me.0.phase) = ap has_turn read in
      let whole : length me.0.seen ≡ length r.history = ap length (r.told.read id me.0 at (ap has_read read)) in
      let count : r.count ≡ length r.history = r.told.counted in
      let fits : (r.count + k) % 2 ^ 64 ≡ r.count + length xs = omega arith in
      let by_place : AreSigned id me.0.turns xs = subst (λ (a : ℕ). AreSigned a me.0.turns xs) (r.passes.number id me.0 at) signed in (
        w,
        keeps,
        tt,
        record {
          ticket = r.ticket;
          serving = r.serving;
          count = r.count + length xs;
          words = ap (λ (x : List ℕ). set x 2 ((get_or x 2 0 + k) % 2 ^ 64)) r.words ∙ ap (λ (x : ℕ). r.ticket ∷ r.serving ∷ x ∷ []) fits;
          history = r.history ++ xs;
          passes = passes_stay s.views id me.0 w r.passes at refl refl (r.passes.few_turns id me.0 at);
          tickets = tickets_stay r.ticket r.serving s.views id me.0 w r.tickets at refl refl (sym (ap in_line read)) (λ _. r.tickets.served id me.0 at in_turn);
          told = history_grows o z r.history r.count s.views id me.0 xs r.told at (ap has_read read) (only_turn r.ticket r.serving s.views id me.0 r.tickets at in_turn) by_place;
          slot = ⊎_elim (λ home. absurd (home.4 id me.0 at in_turn)) (λ out. inr (out.0, taken_stays s.views id me.0 w out.1 at (sym in_turn))) r.slot;
          reached = one_more (lock_at r.ticket r.serving r.count s) (lock_at r.ticket r.serving (r.count + length xs) (stepped s 2 ((r.count + k) % 2 ^ 64) id me.1 w keeps)) (kind.adds_entries xs) id me.0 r.reached at (read, signed) refl;
        },
        refl,
      )

  pub leaves : (slots id : ℕ) (me : Me (Option B) PassView) (b : B) → me.0.phase ≡ Done → me.1 ≡ (0, Some b) ∷ [] → entries b ≡ me.0.seen → base b ≡ me.0.base
      → Allows Rule slots id me 1 (λ n. (n + 1) % 2 ^ 64) (left_line some_step me)
  leaves slots id me b done has is_entries is_base s r len at small =
      let w : PassView = out_of_line me.0 in
      let in_turn : IsTrue (has_turn me.0.phase) = ap has_turn done in
      let few = tickets_few r.ticket r.serving s.views r.tickets r.passes in
      let waiting = r.tickets.waiting in
      let fits : (r.serving + 1) % 2 ^ 64 ≡ r.serving + 1 = omega arith in
      let back : set s.homes 0 (some (Some b)) ≡ some (Some b) ∷ [] = ⊎_elim (λ home. ap (λ (x : List _). set x 0 (some (Some b))) home.1) (λ out. ap (λ (x : List _). set x 0 (some (Some b))) out.0) r.slot in
      let homes : put_back s.homes me.1 ≡ some (Some b) ∷ [] = rw has back in (
        w,
        gives,
        tt,
        record {
          ticket = r.ticket;
          serving = r.serving + 1;
          count = r.count;
          words = ap (λ (x : List ℕ). set x 1 ((get_or x 1 0 + 1) % 2 ^ 64)) r.words ∙ ap (λ (x : ℕ). r.ticket ∷ x ∷ r.count ∷ []) fits;
          history = r.history;
          passes = passes_stay s.views id me.0 w r.passes at refl refl (r.passes.few_turns id me.0 at);
          tickets = leave r.ticket r.serving s.views id me.0 r.tickets at in_turn;
          told = history_stays o z r.history r.count s.views id me.0 w r.told at refl refl refl refl (omega arith) (λ read. absurd (false≢true read)) (λ turn. absurd (false≢true (ap has_turn turn)));
          slot = inl (
            b,
            homes,
            is_base ∙ (r.told.unchanged id me.0 at).1,
            is_entries ∙ r.told.read id me.0 at (ap has_read done),
            each_set (λ i u. IsTrue (has_turn u.phase) → ⊥) s.views id w (only_turn r.ticket r.serving s.views id me.0 r.tickets at in_turn) (λ turn. absurd (false≢true turn)),
          );
          reached = one_more (lock_at r.ticket r.serving r.count s) (lock_at r.ticket (r.serving + 1) r.count (stepped s 1 ((get_or s.words 1 0 + 1) % 2 ^ 64) id me.1 w gives)) (kind.gives_turn b) id me.0 r.reached at (done, is_entries, is_base)
              (slot_is_out r.history s id me.0 r.slot at in_turn, r.told.counted ∙ ap length (sym (r.told.read id me.0 at (ap has_read done))), ap (λ (x : List _). record (lock_at r.ticket (r.serving + 1) r.count s) { slot = slot_of x; views = set s.views id w }) homes);
        },
        refl,
      )

  pub splits : (id : ℕ) (v : PassView) → v.number ≡ 0 → v.splits + 1 < 256 → Splits Rule id v (having_split v) (split_off v)
  splits id v first few s r at =
      let is_first : id ≡ 0 = sym (r.passes.number id v at) ∙ first in
      let at' : At s.views 0 v = subst (λ (k : ℕ). At s.views k v) is_first at in
      let w : PassView = having_split v in
      let y : PassView = split_off v in
      let ws : List PassView = set s.views 0 w in
      let made : Rule (record { words = s.words; homes = s.homes; views = ws ++ y ∷ [] }) = record {
        ticket = r.ticket;
        serving = r.serving;
        count = r.count;
        words = r.words;
        history = r.history;
        passes = passes_split s.views v r.passes at' few;
        tickets = tickets_split r.ticket r.serving s.views v r.tickets at';
        told = history_split o z r.history r.count s.views v r.told at' (r.passes.few_passes v at').0;
        slot = ⊎_elim
            (λ home. inl (home.0, home.1, home.2, home.3, each_last (λ i u. IsTrue (has_turn u.phase) → ⊥) ws y (untaken_stays s.views 0 v w home.4 at' refl) (λ turn. absurd (false≢true turn))))
            (λ out. let m = taken_stays s.views 0 v w out.1 at' refl in inr (out.0, (m.0, m.1, at_longer ws (y ∷ []) m.0 m.1 m.2, m.3)))
            r.slot;
        reached = one_more (lock_at r.ticket r.serving r.count s) (lock_at r.ticket r.serving r.count (record { words = s.words; homes = s.homes; views = ws ++ y ∷ [] })) kind.splits_pass 0 v r.reached at' (first, few) refl;
      } in
      subst (λ (k : ℕ). Rule (record { words = s.words; homes = s.homes; views = set s.views k w ++ y ∷ [] })) (sym is_first) made
