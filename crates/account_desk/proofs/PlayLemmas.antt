-- Calls played one after the other, each at what was there before the first and at what came of those between.
use Rattle.std.proofs.Common.{◌≡◌, ◌≢◌, ℕ, ◌+◌, ◌==◌, List, [], ◌∷◌, ◌++◌, length, take, refl, sym, ap, ◌∙◌, subst, length-append, append_assoc, append-nil, eq-eqb, ne_eqb, if◌then◌else◌}
use Rattle.std.proofs.Math.Seq.{take-append_seam}
use mathlib.Core.Logic.{dite}
use native.Mathlib.Decide.{ℕ_discrete}
use Rattle.account_desk.specs.FreshDesk.{IsSole}
use Rattle.spec_batch.specs.Chain.{Made, Chain, Shown, Stand, on, stamp_of}
use Rattle.spec_books.specs.Acting.{Acts}
use Rattle.spec_history.specs.declared.entry.Entry.{Entry}
use Rattle.account_desk.proofs.TurnLemmas.{Fills, all_came, all_filled, fills_in_turn}

-- the histories, with more at the end of one of them
abbrev pub longer : (ℕ → List Entry) → ℕ → List Entry → ℕ → List Entry
longer now k more j = if j == k then now j ++ more else now j

-- the histories after a call, and after calls
abbrev pub next : (ℕ → List Entry) → Made → ℕ → List Entry
next now m = longer now m.account m.came

abbrev pub after : (ℕ → List Entry) → List Made → ℕ → List Entry
after now [] = now
after now (m ∷ ms) = after (next now m) ms

pub after-append : (now : ℕ → List Entry) (xs ys : List Made) → after now (xs ++ ys) ≡ after (after now xs) ys
after-append now [] ys = refl
after-append now (x ∷ xs) ys = after-append (next now x) xs ys

-- by the rules, the bases and the authors of a desk in the state s
module _ (s : Shown) where
  -- the call is answered at this history, and this came of it
  abbrev pub ActsAt : List Entry → Made → Type 0
  ActsAt h m = Acts s.rules.answer s.rules.added s.rules.unkept (s.base m.account) h m.call (stamp_of s.rules (s.base m.account) (s.author m.account) m) m.reply m.came

  -- each call is answered at the history of its account, which then has what came of it
  abbrev pub Played : (ℕ → List Entry) → List Made → Type 0
  Played now [] = Unit {0}
  Played now (m ∷ ms) = ActsAt (now m.account) m × Played (next now m) ms

  pub played_first : (now : ℕ → List Entry) (xs ys : List Made) → Played now (xs ++ ys) → Played now xs
  played_first now [] ys p = tt
  played_first now (x ∷ xs) ys p = (p.0, played_first (next now x) xs ys p.1)

  pub played_rest : (now : ℕ → List Entry) (xs ys : List Made) → Played now (xs ++ ys) → Played (after now xs) ys
  played_rest now [] ys p = p
  played_rest now (x ∷ xs) ys p = played_rest (next now x) xs ys p.1

on_same : (m : Made) (ms : List Made) → on m.account (m ∷ ms) ≡ m ∷ on m.account ms
on_same m ms = rw (eq-eqb m.account m.account refl) refl

on_other : (k : ℕ) (m : Made) (ms : List Made) → k ≢ m.account → on k (m ∷ ms) ≡ on k ms
on_other k m ms other = rw (ne_eqb m.account k (λ e. other (sym e))) refl

module _ (s : Shown) (whole : ℕ → List Entry) (upto : ℕ → ℕ) where
  -- the calls that are left fill up an account's history, which is h so far
  abbrev Left : ℕ → List Entry → List Made → Type 0
  Left k h ms = Fills s.rules (s.base k) (s.author k) (whole k) h (upto k) ms

  module _ (now : ℕ → List Entry) (m : Made) (ms : List Made) (left : Left m.account (now m.account) (m ∷ ms)) where
    abbrev h : List Entry
    h = now m.account

    abbrev all : List Entry
    all = whole m.account

    abbrev rest : List Entry
    rest = all_came ms

    place_is : m.reply.place ≡ length h
    place_is = (fills_in_turn s.rules (s.base m.account) (s.author m.account) all h (upto m.account) (m ∷ ms) left).0

    before_is : take m.reply.place all ≡ h
    before_is = ap (λ (n : ℕ). take n all) place_is ∙ (ap (take (length h)) left.full ∙ take-append_seam h (m.came ++ rest))

    acts : ActsAt s h m
    acts = subst (λ (l : List Entry). ActsAt s l m) before_is left.stand.0.acts

    filled : Left m.account (h ++ m.came) ms
    filled =
        let ends : m.reply.place + length m.came ≡ length (h ++ m.came) = (λ i. place_is i + length m.came) ∙ sym (length-append h m.came) in
        record {
          late = m.turn;
          stand = subst (λ (n : ℕ). Stand s.rules (s.base m.account) (s.author m.account) all n m.turn (upto m.account) ms) ends left.stand.1;
          full = left.full ∙ sym (append_assoc h m.came rest);
        }

  fill_next : (now : ℕ → List Entry) (m : Made) (ms : List Made) → ((k : ℕ) → Left k (now k) (on k (m ∷ ms))) → (k : ℕ) → Left k (next now m k) (on k ms)
  fill_next now m ms left k =
      dite (ℕ_discrete k m.account)
      (λ e. subst (λ (j : ℕ). Left j (next now m j) (on j ms)) (sym e)
      (rw (eq-eqb m.account m.account refl) (filled now m (on m.account ms) (subst (Left m.account (now m.account)) (on_same m ms) (left m.account)))))
      (λ other. rw (ne_eqb k m.account other) (subst (Left k (now k)) (on_other k m ms other) (left k)))

  played_full : (now : ℕ → List Entry) (ms : List Made) → ((k : ℕ) → Left k (now k) (on k ms)) → Played s now ms
  played_full now [] left = tt
  played_full now (m ∷ ms) left = (
    acts now m (on m.account ms) (subst (Left m.account (now m.account)) (on_same m ms) (left m.account)),
    played_full (next now m) ms (fill_next now m ms left),
  )

  after_full : (now : ℕ → List Entry) (ms : List Made) → ((k : ℕ) → Left k (now k) (on k ms)) → (k : ℕ) → after now ms k ≡ whole k
  after_full now [] left k = sym ((left k).full ∙ append-nil (now k))
  after_full now (m ∷ ms) left k = after_full (next now m) ms (fill_next now m ms left) k

-- the calls of a chain in which nobody else takes part were played
pub played : (s t : Shown) (ms : List Made) → Chain s t ms → IsSole t → Played s s.seen ms
played s t ms chain sole = played_full s t.seen t.last s.seen ms (all_filled s t ms chain sole)

-- and lead to the histories of the last state
pub played_to : (s t : Shown) (ms : List Made) → Chain s t ms → IsSole t → (k : ℕ) → after s.seen ms k ≡ t.seen k
played_to s t ms chain sole = after_full s t.seen t.last s.seen ms (all_filled s t ms chain sole)
