-- Each step keeps what the rule says of the history.
use Rattle.std.proofs.Common.{◌≡◌, ◌≢◌, ℕ, ◌+◌, ◌≤◌, List, [], ◌∷◌, ◌++◌, length, set, sym, refl, ap, ◌∙◌, subst, IsTrue, arith, length-set, length-append, append_assoc, append-nil}
use Rattle.std.proofs.lemmas.Bool.{false≢true}
use Rattle.std.proofs.lemmas.List.{append_cancel_left}
use mathlib.Core.Logic.{dite}
use native.Mathlib.Decide.{ℕ_discrete}
use Rattle.atomic_table.proofs.Lists.{at_longer, set_here, set_else}
use Rattle.spec_history.specs.Base.{Base}
use Rattle.account_lock.specs.Lock.{PassView, has_turn, has_read}
use Rattle.spec_history.specs.Signed.{written_by, Begins, Extends}
use Rattle.account_lock.specs.LockSteps.{having_read, having_added, having_split, split_off}
use Rattle.spec_history.specs.Signed.{AreSigned}
use Rattle.spec_history.specs.declared.entry.Entry.{Entry}
use Rattle.account_lock.specs.declared.lock.Phase.{Phase}
use Rattle.account_lock.specs.declared.lock.Phase.TheVariants.{Idle, Waits, Turn, Read, Done}
use Rattle.account_lock.specs.TicketRule.{At}
use Rattle.account_lock.specs.HistoryRule.{TurnsUpTo, TurnsRise, Knows, HistoryHolds}
use Rattle.account_lock.proofs.EntryLemmas.{written_by-append, written_by-own, written_by-other, written_by-below, AuthorsBelow-append, AuthorsBelow-more, TurnsUpTo-more, TurnsUpTo-append, TurnsRise-append}
use Rattle.account_lock.proofs.ViewLemmas.{each_set, each_last, at_inside, same_at}

begins_itself : (h : List Entry) → Begins h h
begins_itself h = ([], sym (append-nil h))

begins_more : (h s xs : List Entry) → Begins h s → Begins (h ++ xs) s
begins_more h s xs r = (r.0 ++ xs, ap (λ (l : List Entry). l ++ xs) r.1 ∙ append_assoc s r.0 xs)

-- a step that leaves what a pass has seen and made
pub history_stays : (o : List Entry) (z : Base) (h : List Entry) (c : ℕ) (vs : List PassView) (id : ℕ) (v w : PassView) → HistoryHolds o z h c vs → At vs id v
    → w.seen ≡ v.seen → w.mine ≡ v.mine → w.opened ≡ v.opened → w.base ≡ v.base → v.turns ≤ w.turns
    → (IsTrue (has_read w.phase) → v.seen ≡ h) → (w.phase ≡ Turn → w.hand ≡ (z, h)) → HistoryHolds o z h c (set vs id w)
history_stays o z h c vs id v w l at same_seen same_mine same_opened same_base more whole hand =
    record {
      added = l.added;
      begins = l.begins;
      counted = l.counted;
      known = (let m = l.known in dite (ℕ_discrete m.0 id)
          (λ e. let is = same_at vs m.0 id m.1 v e m.2 at in (id, w, set_here vs id w (at_inside vs id v at), same_seen ∙ (ap (λ (u : PassView). u.seen) (sym is) ∙ m.3)))
          (λ ne. (m.0, m.1, set_else vs id m.0 w ne ∙ m.2, m.3)));
      seen = each_set (Knows o h) vs id w (λ i u ne at. l.seen i u at)
          (let k = l.seen id v at in (k.0, same_seen ∙ k.1, k.2 ∙ sym same_mine, subst (λ (s : List Entry). Begins h s) (sym same_seen) k.3));
      read = each_set (λ i u. IsTrue (has_read u.phase) → u.seen ≡ h) vs id w (λ i u ne at b. l.read i u at b) (λ b. same_seen ∙ whole b);
      in_hand = each_set (λ i u. u.phase ≡ Turn → u.hand ≡ (z, h)) vs id w (λ i u ne at b. l.in_hand i u at b) hand;
      unchanged = each_set (λ i u. (u.opened ≡ o) × (u.base ≡ z)) vs id w (λ i u ne at. l.unchanged i u at) (let s = l.unchanged id v at in (same_opened ∙ s.0, same_base ∙ s.1));
      signed = rw (length-set vs id w) l.signed;
      mine = each_set (λ i u. written_by i l.added ≡ u.mine) vs id w (λ i u ne at. l.mine i u at) (l.mine id v at ∙ sym same_mine);
      timed = each_set (λ i u. TurnsUpTo u.turns u.mine × TurnsRise u.mine) vs id w (λ i u ne at. l.timed i u at)
          (let t = l.timed id v at in subst (λ (s : List Entry). TurnsUpTo w.turns s × TurnsRise s) (sym same_mine) (TurnsUpTo-more v.turns w.turns v.mine more t.0, t.1));
    }

-- the pass in turn reads the book in hand
pub history_read : (o : List Entry) (z : Base) (h : List Entry) (c : ℕ) (vs : List PassView) (id : ℕ) (v : PassView) → HistoryHolds o z h c vs → At vs id v → v.phase ≡ Turn → HistoryHolds o z h c (set vs id (having_read v))
history_read o z h c vs id v l at turn =
    let w : PassView = having_read v in
    let is : v.hand.1 ≡ h = ap (λ (x : Base × List Entry). x.1) (l.in_hand id v at turn) in
    record {
      added = l.added;
      begins = l.begins;
      counted = l.counted;
      known = (id, w, set_here vs id w (at_inside vs id v at), is);
      seen = each_set (Knows o h) vs id w (λ i u ne at. l.seen i u at)
          (l.added, is ∙ l.begins, l.mine id v at, subst (λ (s : List Entry). Begins h s) (sym is) (begins_itself h));
      read = each_set (λ i u. IsTrue (has_read u.phase) → u.seen ≡ h) vs id w (λ i u ne at b. l.read i u at b) (λ _. is);
      in_hand = each_set (λ i u. u.phase ≡ Turn → u.hand ≡ (z, h)) vs id w (λ i u ne at b. l.in_hand i u at b) (λ _. l.in_hand id v at turn);
      unchanged = each_set (λ i u. (u.opened ≡ o) × (u.base ≡ z)) vs id w (λ i u ne at. l.unchanged i u at) (l.unchanged id v at);
      signed = rw (length-set vs id w) l.signed;
      mine = each_set (λ i u. written_by i l.added ≡ u.mine) vs id w (λ i u ne at. l.mine i u at) (l.mine id v at);
      timed = each_set (λ i u. TurnsUpTo u.turns u.mine × TurnsRise u.mine) vs id w (λ i u ne at. l.timed i u at) (l.timed id v at);
    }

turn_phase : (p : Phase) → p ≡ Turn → IsTrue (has_turn p)
turn_phase p e = ap has_turn e

read_turn : (p : Phase) → IsTrue (has_read p) → IsTrue (has_turn p)
read_turn Idle h = h
read_turn Waits h = h
read_turn Turn h = refl
read_turn Read h = refl
read_turn Done h = refl

-- the pass that has read the book adds entries of its own
pub history_grows : (o : List Entry) (z : Base) (h : List Entry) (c : ℕ) (vs : List PassView) (id : ℕ) (v : PassView) (xs : List Entry) → HistoryHolds o z h c vs → At vs id v → IsTrue (has_read v.phase)
    → ((i : ℕ) (u : PassView) → i ≢ id → At vs i u → IsTrue (has_turn u.phase) → ⊥) → AreSigned id v.turns xs → HistoryHolds o z (h ++ xs) (c + length xs) (set vs id (having_added v xs))
history_grows o z h c vs id v xs l at in_read alone written =
    let w : PassView = having_added v xs in
    let is : v.seen ≡ h = l.read id v at in_read in
    let long : w.seen ≡ h ++ xs = ap (λ (s : List Entry). s ++ xs) is in
    let t = l.timed id v at in
    let begins : h ++ xs ≡ o ++ (l.added ++ xs) = ap (λ (s : List Entry). s ++ xs) l.begins ∙ append_assoc o l.added xs in
    let mine : written_by id (l.added ++ xs) ≡ v.mine ++ xs = written_by-append id l.added xs ∙ (ap (λ (s : List Entry). written_by id l.added ++ s) (written_by-own id v.turns xs written) ∙ ap (λ (s : List Entry). s ++ xs) (l.mine id v at)) in
    record {
      added = l.added ++ xs;
      begins = begins;
      counted = (let e = l.counted in ap (λ (k : ℕ). k + length xs) e ∙ sym (length-append h xs));
      known = (id, w, set_here vs id w (at_inside vs id v at), long);
      seen = each_set (Knows o (h ++ xs)) vs id w (λ i u ne at. let s = l.seen i u at in (s.0, s.1, s.2, begins_more h u.seen xs s.3))
          (l.added ++ xs, long ∙ begins, mine, subst (λ (s : List Entry). Begins (h ++ xs) s) (sym long) (begins_itself (h ++ xs)));
      read = each_set (λ i u. IsTrue (has_read u.phase) → u.seen ≡ h ++ xs) vs id w (λ i u ne at b. absurd (alone i u ne at (read_turn u.phase b))) (λ b. long);
      in_hand = each_set (λ i u. u.phase ≡ Turn → u.hand ≡ (z, h ++ xs)) vs id w (λ i u ne at b. absurd (alone i u ne at (turn_phase u.phase b))) (λ b. absurd (false≢true (sym (ap has_read b))));
      unchanged = each_set (λ i u. (u.opened ≡ o) × (u.base ≡ z)) vs id w (λ i u ne at. l.unchanged i u at) (l.unchanged id v at);
      signed = rw (length-set vs id w) (AuthorsBelow-append (length vs) id v.turns l.added xs l.signed (at_inside vs id v at) written);
      mine = each_set (λ i u. written_by i (l.added ++ xs) ≡ u.mine) vs id w
          (λ i u ne at. written_by-append i l.added xs ∙ (ap (λ (s : List Entry). written_by i l.added ++ s) (written_by-other id i v.turns xs ne written) ∙ (append-nil (written_by i l.added) ∙ l.mine i u at)))
          mine;
      timed = each_set (λ i u. TurnsUpTo u.turns u.mine × TurnsRise u.mine) vs id w (λ i u ne at. l.timed i u at)
          (TurnsUpTo-append id v.turns v.mine xs t.0 written, TurnsRise-append id v.turns v.mine xs t.1 t.0 written);
    }

-- the first pass splits off another
pub history_split : (o : List Entry) (z : Base) (h : List Entry) (c : ℕ) (vs : List PassView) (v : PassView) → HistoryHolds o z h c vs → At vs 0 v → length vs ≡ v.splits + 1 → HistoryHolds o z h c (set vs 0 (having_split v) ++ split_off v ∷ [])
history_split o z h c vs v l at size =
    let w : PassView = having_split v in
    let y : PassView = split_off v in
    let ws : List PassView = set vs 0 w in
    let s = l.unchanged 0 v at in
    let each = λ (P : ℕ → PassView → Type 0) (others : (i : ℕ) (u : PassView) → i ≢ 0 → At vs i u → P i u) (here : P 0 w) (last : P (length ws) y). each_last P ws y (each_set P vs 0 w others here) last in
    record {
      added = l.added;
      begins = l.begins;
      counted = l.counted;
      known = (let m = l.known in dite (ℕ_discrete m.0 0)
          (λ e. let is = same_at vs m.0 0 m.1 v e m.2 at in (0, w, at_longer ws (y ∷ []) 0 w (set_here vs 0 w (at_inside vs 0 v at)), ap (λ (u : PassView). u.seen) (sym is) ∙ m.3))
          (λ ne. (m.0, m.1, at_longer ws (y ∷ []) m.0 m.1 (set_else vs 0 m.0 w ne ∙ m.2), m.3)));
      seen = each (Knows o h) (λ i u ne at. l.seen i u at) (l.seen 0 v at)
          ([], s.0 ∙ sym (append-nil o), refl, subst (λ (a : List Entry). Begins h a) (sym s.0) (l.added, l.begins));
      read = each (λ i u. IsTrue (has_read u.phase) → u.seen ≡ h) (λ i u ne at b. l.read i u at b) (λ b. l.read 0 v at b) (λ b. absurd (false≢true b));
      in_hand = each (λ i u. u.phase ≡ Turn → u.hand ≡ (z, h)) (λ i u ne at b. l.in_hand i u at b) (λ b. l.in_hand 0 v at b) (λ b. absurd (false≢true (ap has_turn b)));
      unchanged = each (λ i u. (u.opened ≡ o) × (u.base ≡ z)) (λ i u ne at. l.unchanged i u at) s s;
      signed = rw (length-append ws (y ∷ []), length-set vs 0 w) (AuthorsBelow-more (length vs) (length vs + 1) l.added (omega arith) l.signed);
      mine = each (λ i u. written_by i l.added ≡ u.mine) (λ i u ne at. l.mine i u at) (l.mine 0 v at) (rw (length-set vs 0 w) (written_by-below (length vs) l.added l.signed));
      timed = each (λ i u. TurnsUpTo u.turns u.mine × TurnsRise u.mine) (λ i u ne at. l.timed i u at) (l.timed 0 v at) (tt, tt);
    }

-- what a pass hasn't seen yet is of others
pub unseen_of_others : (o : List Entry) (z : Base) (h : List Entry) (c : ℕ) (vs : List PassView) (id : ℕ) (v : PassView) → HistoryHolds o z h c vs → At vs id v → Extends id v.seen h
unseen_of_others o z h c vs id v l at =
    let k = l.seen id v at in
    let b : List Entry = k.3.0 in
    let join : o ++ l.added ≡ o ++ (k.0 ++ b) = sym l.begins ∙ (k.3.1 ∙ (ap (λ (s : List Entry). s ++ b) k.1 ∙ append_assoc o k.0 b)) in
    let rest : l.added ≡ k.0 ++ b = append_cancel_left o l.added (k.0 ++ b) join in
    let own : v.mine ++ written_by id b ≡ v.mine ++ [] = ap (λ (s : List Entry). s ++ written_by id b) (sym k.2) ∙ (sym (written_by-append id k.0 b) ∙ (ap (written_by id) (sym rest) ∙ (l.mine id v at ∙ sym (append-nil v.mine)))) in
    (b, k.3.1, append_cancel_left v.mine (written_by id b) [] own)
