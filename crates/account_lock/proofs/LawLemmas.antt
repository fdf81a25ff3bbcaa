-- The rule of the lock's table makes the table a ticket lock.
use Rattle.std.proofs.Common.{◌≡◌, ℕ, zero, suc, ◌<◌, ◌≤◌, List, [], ◌∷◌, length, sym, refl, ap, ◌∙◌, subst, ⊎_elim, arith, Option, Some, slice_get}
use Rattle.std.specs.Prelude.{slice_index_or}
use Rattle.std.proofs.lemmas.Option.{none-some, same_Some}
use mathlib.Core.Option.{some}
use Rattle.atomic_table.specs.Table.{State}
use Rattle.spec_history.specs.Base.{Base}
use Rattle.account_lock.specs.Lock.{PassView, IsTicketLock}
use Rattle.spec_history.specs.Signed.{written_by}
use Rattle.spec_history.specs.declared.entry.Entry.{Entry}
use Rattle.account_lock.specs.HistoryRule.{AuthorsBelow, TurnsUpTo, TurnsFrom, TurnsRise}
use Rattle.account_lock.specs.Rule.{RuleHolds, lock_of, slot_of}
use Rattle.account_lock.specs.LockSteps.{IsReached}
use Rattle.account_lock.specs.TicketRule.{At}
use Rattle.account_lock.proofs.ViewLemmas.{at_inside, get_from_at}

at_from_get : (vs : List PassView) (i : ℕ) (v : PassView) → slice_get vs i ≡ Some v → At vs i v
at_from_get [] i v is = cc
at_from_get (x ∷ xs) zero v is = let same : x ≡ v = cc in ap some same
at_from_get (x ∷ xs) (suc i) v is = at_from_get xs i v is

at_below : (vs : List PassView) (k : ℕ) → k < length vs → (v : PassView) × At vs k v
at_below [] k less = absurd (omega arith)
at_below (x ∷ xs) zero less = (x, refl)
at_below (x ∷ xs) (suc k) less = at_below xs k (omega arith)

each_author : (P : Entry → Type 0) (n : ℕ) (es : List Entry) → ((e : Entry) → e.author < n → P e) → AuthorsBelow n es → (k : ℕ) (d : Entry) → k < length es → P (slice_index_or es k d)
each_author P n [] each below k d less = absurd (omega arith)
each_author P n (e ∷ es) each below zero d less = each e below.0
each_author P n (e ∷ es) each below (suc k) d less = each_author P n es each below.1 k d (omega arith)

each_turn_up_to : (t : ℕ) (es : List Entry) → TurnsUpTo t es → (k : ℕ) (d : Entry) → k < length es → (slice_index_or es k d).turn ≤ t
each_turn_up_to t [] upto k d less = absurd (omega arith)
each_turn_up_to t (e ∷ es) upto zero d less = upto.0
each_turn_up_to t (e ∷ es) upto (suc k) d less = each_turn_up_to t es upto.1 k d (omega arith)

each_turn_from : (t : ℕ) (es : List Entry) → TurnsFrom t es → (k : ℕ) (d : Entry) → k < length es → t ≤ (slice_index_or es k d).turn
each_turn_from t [] from k d less = absurd (omega arith)
each_turn_from t (e ∷ es) from zero d less = from.0
each_turn_from t (e ∷ es) from (suc k) d less = each_turn_from t es from.1 k d (omega arith)

turns_in_order : (es : List Entry) → TurnsRise es → (i j : ℕ) (d : Entry) → i ≤ j → j < length es → (slice_index_or es i d).turn ≤ (slice_index_or es j d).turn
turns_in_order [] rise i j d le less = absurd (omega arith)
turns_in_order (e ∷ es) rise zero zero d le less = omega arith
turns_in_order (e ∷ es) rise zero (suc j) d le less = each_turn_from e.turn es rise.0 j d (omega arith)
turns_in_order (e ∷ es) rise (suc i) zero d le less = absurd (omega arith)
turns_in_order (e ∷ es) rise (suc i) (suc j) d le less = turns_in_order es rise.1 i j d (omega arith) (omega arith)

module _ {B : Type 0} (entries : B → List Entry) (base : B → Base) where
  pub ticket_lock : (o : List Entry) (z : Base) (s : State (Option B) PassView) → RuleHolds entries base o z s → IsTicketLock entries base o z (lock_of s)
  ticket_lock o z s r =
      let at = at_from_get s.views in
      let get = get_from_at s.views in
      let number = λ (i : ℕ) (v : PassView) (is : slice_get s.views i ≡ Some v). r.passes.number i v (at i v is) in
      let lock : IsTicketLock entries base o z (lock_of (record { words = r.ticket ∷ r.serving ∷ r.count ∷ []; homes = s.homes; views = s.views })) = record {
        issued = r.tickets.issued;
        waiting = r.tickets.waiting;
        in_range = λ i v is. r.tickets.in_range i v (at i v is);
        apart = λ i j v w is is'. r.tickets.apart i j v w (at i v is) (at j w is');
        met = λ k low high. let m = r.tickets.met k low high in (m.0, m.1, get m.0 m.1 m.2, m.3, m.4);
        served = λ i v is. r.tickets.served i v (at i v is);
        taken = λ empty. ⊎_elim
            (λ home. absurd (none-some home.0 (sym empty ∙ ap slot_of home.1)))
            (λ out. let m = out.1 in (m.0, m.1, get m.0 m.1 m.2, m.3)) r.slot;
        history = r.history;
        known = (let m = r.told.known in (m.0, m.1, get m.0 m.1 m.2, m.3));
        counted = r.told.counted;
        in_slot = λ b full. ⊎_elim
            (λ home. subst (λ (b : B). (base b ≡ z) × (entries b ≡ r.history)) (same_Some home.0 b (sym (ap slot_of home.1) ∙ full)) (home.2, home.3))
            (λ out. absurd (none-some b (sym (ap slot_of out.0) ∙ full))) r.slot;
        in_hand = λ i v is. r.told.in_hand i v (at i v is);
        seen = λ i v is. let k = r.told.seen i v (at i v is) in (k.0, k.1, ap (λ (a : ℕ). written_by a k.0) (number i v is) ∙ k.2, k.3);
        read = λ i v is. r.told.read i v (at i v is);
        unchanged = λ i v is. r.told.unchanged i v (at i v is);
        first = (let f = r.passes.first in (0, f.0, get 0 f.0 f.1, number 0 f.0 (get 0 f.0 f.1)));
        numbered = λ i j v w is is' same. sym (number i v is) ∙ (same ∙ number j w is');
        within = λ i j v w is is' first.
            let place = number i v is in
            let inside = at_inside s.views i v (at i v is) in
            let few = r.passes.few_passes w (subst (λ (k : ℕ). At s.views k w) (sym (number j w is') ∙ first) (at j w is')) in
            let length = few.0 in
            omega arith;
        alone = λ i v is other. r.passes.alone i v (at i v is) (let place = number i v is in omega arith);
        added = r.told.added;
        begins = r.told.begins;
        signed = each_author (λ e. (i : ℕ) × (v : PassView) × (slice_get s.views i ≡ Some v) × (v.number ≡ e.author)) (length s.views) r.told.added
            (λ e less. let v = at_below s.views e.author less in (e.author, v.0, get e.author v.0 v.1, r.passes.number e.author v.0 v.1)) r.told.signed;
        mine = λ i v is. ap (λ (a : ℕ). written_by a r.told.added) (number i v is) ∙ r.told.mine i v (at i v is);
        timed = λ i v is. let t = r.told.timed i v (at i v is) in (turns_in_order v.mine t.1, each_turn_up_to v.turns v.mine t.0);
      } in
      subst (λ (ws : List ℕ). IsTicketLock entries base o z (lock_of (record { words = ws; homes = s.homes; views = s.views }))) (sym r.words) lock

  pub is_reached : (o : List Entry) (z : Base) (s : State (Option B) PassView) → RuleHolds entries base o z s → IsReached entries base o z (lock_of s)
  is_reached o z s r = subst (λ (ws : List ℕ). IsReached entries base o z (lock_of (record { words = ws; homes = s.homes; views = s.views }))) (sym r.words) r.reached
