-- A call with a turn of its own is answered.
use Rattle.std.proofs.Common.{◌≡◌, ◌∙◌, ◌+◌, ◌++◌, ℕ, ℤ, List, [], ◌∷◌, Option, Some, None, Result, Ok, Err, IfOk, sym, ap, subst}
use Rattle.std.proofs.lemmas.Option.{same_Some}
use Rattle.atomic_table.specs.Seated.{TableId}
use Rattle.account_lock.specs.Lock.{PassView}
use Rattle.account_lock.specs.LockSteps.{having_added, having_read, out_of_line, with_ticket, with_turn}
use Rattle.account_lock.specs.Passes.{IsAnswered, next_stamp, pass_state}
use Rattle.account_lock.specs.declared.lock.Phase.TheVariants.{Idle}
use Rattle.spec_books.specs.Acting.{Acts}
use Rattle.spec_history.specs.Base.{Base}
use Rattle.spec_history.specs.Signed.{Extends}
use Rattle.spec_history.specs.declared.entry.Entry.{Entry}
use Rattle.spec_history.specs.declared.stamp.Stamp.{Stamp}

-- what lies in the first slot
abbrev first_slot : {B : Type 0} → List (ℕ × Option B) → Option B
first_slot [] = None
first_slot (p ∷ ps) = p.1

module _ {C R : Type 0} (answer : Base → List Entry → C → ℤ → R) (added : Base → List Entry → C → Stamp → List Entry) (unkept : Option (List Entry → R)) (call : C) (s : Stamp) where
  -- what the pass's view is in the end
  abbrev left_view : PassView → ℕ → Base → List Entry → List Entry → PassView
  left_view v ticket base h came = out_of_line (having_added (having_read (with_turn (with_ticket v ticket) base h)) came)

  answered_so : (x : R) (v w : PassView) (ticket : ℕ) (base : Base) (h : List Entry) (id id' : TableId) → v.phase ≡ Idle → id' ≡ id → s.author ≡ v.number → s.turn ≡ v.turns + 1 → base ≡ v.base → Extends v.number v.seen h
      → (came : List Entry) → Acts answer added unkept base h call s x came → w ≡ left_view v ticket base h came → IsAnswered answer added unkept call s.moment x (pass_state id v) (pass_state id' w)
  answered_so x v w ticket base h id id' idle same author turn is_base begins came acts view =
      let stamp : s ≡ next_stamp (pass_state id v) s.moment = λ i. record { author = author i; turn = turn i; moment = s.moment } in
      record {
        history = h;
        begins = begins;
        came = came;
        acts = subst (λ (p : Base × Stamp). Acts answer added unkept p.0 h call p.1 x came) (λ i. (is_base i, stamp i)) acts;
        new_state = ap (pass_state id') view
            ∙ (λ i. record { lock = same i; base = v.base; number = v.number; turns = v.turns + 1; phase = sym idle i; seen = h ++ came; mine = v.mine ++ came });
      }

  module _ {B : Type 0} (entries : B → List Entry) (base : B → Base) where
    pub serves : {E : Type 0} (r : Result R E) (v v1 v2 v3 v4 v5 v6 : PassView) (b b' : B) (s1 s2 : List (ℕ × Option B)) (ticket : ℕ) (id id' : TableId) (came : List Entry)
        → v.phase ≡ Idle → id' ≡ id → s.author ≡ v.number → s.turn ≡ v.turns + 1
        → v1 ≡ with_ticket v ticket → v2 ≡ with_turn v1 (base b') (entries b') → s2 ≡ (0, Some b') ∷ s1 → s2 ≡ (0, Some b) ∷ [] → base b' ≡ v1.base → Extends v1.number v1.seen (entries b')
        → v3 ≡ v2 → IfOk r (λ x. Acts answer added unkept (base b) (entries b) call s x came) → v4 ≡ having_added (having_read v3) came → v5 ≡ v4 → v6 ≡ out_of_line v5
        → IfOk r (λ x. IsAnswered answer added unkept call s.moment x (pass_state id v) (pass_state id' v6))
    serves (Err e) v v1 v2 v3 v4 v5 v6 b b' s1 s2 ticket id id' came idle same author turn p1 p2 q1 q2 is_base begins p3 acts p4 p5 p6 = tt
    serves (Ok x) v v1 v2 v3 v4 v5 v6 b b' s1 s2 ticket id id' came idle same author turn p1 p2 q1 q2 is_base begins p3 acts p4 p5 p6 =
        let slots : ◌≡◌ {A = List (ℕ × Option B)} ((0, Some b') ∷ s1) ((0, Some b) ∷ []) = sym q1 ∙ q2 in
        let book : b' ≡ b = same_Some b' b (ap first_slot slots) in
        let view : v3 ≡ with_turn (with_ticket v ticket) (base b) (entries b) = p3 ∙ (p2 ∙ (λ i. with_turn (p1 i) (base (book i)) (entries (book i)))) in
        let begins' : Extends v.number v.seen (entries b) = subst (λ (q : PassView × B). Extends q.0.number q.0.seen (entries q.1)) (λ i. (p1 i, book i)) begins in
        let base' : base b ≡ v.base = ap base (sym book) ∙ (is_base ∙ ap (λ (u : PassView). u.base) p1) in
        answered_so x v v6 ticket (base b) (entries b) id id' idle same author turn base' begins'
        came acts (p6 ∙ ap out_of_line (p5 ∙ (p4 ∙ ap (λ (u : PassView). having_added (having_read u) came) view)))
