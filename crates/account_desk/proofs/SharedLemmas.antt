-- A call through a pass of a shared account is a call on a desk.
use Rattle.std.proofs.Common.{◌≡◌, ◌≢◌, ℕ, ℤ, zero, suc, ◌+◌, ◌<◌, ◌≤◌, ◌^◌, List, [], ◌∷◌, ◌++◌, All, Result, Ok, Err, Option, Some, IfOk, IfErr, length, map, slice_get, refl, option_map, sym, ap, ◌∙◌, subst, arith, get_or, max, take, set}
use Rattle.std.proofs.lemmas.List.{length-set, take_all, take_more}
use Rattle.std.specs.List.{AllByRecursion as ByRecursion}
use Rattle.std.proofs.lemmas.Option.{get_or_from_slice_get, same_Some, slice_get-map, slice_get_within}
use Rattle.std.proofs.lemmas.List.Elements.{All-from_recursion, All-set}
use Rattle.std.specs.Option.{option_map_or}
use mathlib.Core.Logic.{dite}
use native.Mathlib.Decide.{ℕ_discrete}
use Rattle.atomic_table.specs.Seated.{TableId}
use Rattle.account_lock.specs.Passes.{PassState, IsAnswered, HasFailed}
use Rattle.account_lock.specs.declared.locked.CallError.{CallError}
use Rattle.account_lock.specs.declared.locked.CallError.TheVariants as pass
use Rattle.spec_books.specs.Acting.{Acts}
use Rattle.spec_history.specs.Base.{Base, no_base}
use Rattle.spec_batch.specs.Chain.{Answered, Called, Missed, Rules, StaysBeside}
use Rattle.spec_history.specs.Signed.{Extends}
use Rattle.spec_history.specs.MostTurns.{most_turns}
use Rattle.spec_calls.specs.declared.call.Call.{Call}
use Rattle.spec_calls.specs.declared.call.Reply.{Reply}
use Rattle.spec_history.specs.declared.entry.Entry.{Entry}
use Rattle.spec_history.specs.declared.stamp.Stamp.{Stamp}
use Rattle.account_desk.specs.SharedDesk.{IsSharedDesk, greatest_turn, shown_by_passes, through_pass}

-- ---- a list in which one element was replaced

module _ {X : Type 0} where
  pub set_here : (xs : List X) (k : ℕ) (q : X) → k < length xs → slice_get (set xs k q) k ≡ Some q
  set_here [] k q there = absurd (omega (arith, there))
  set_here (x ∷ xs) zero q there = refl
  set_here (x ∷ xs) (suc k) q there = set_here xs k q (omega (arith, there))

  pub set_elsewhere : (xs : List X) (k j : ℕ) (q : X) → j ≢ k → slice_get (set xs k q) j ≡ slice_get xs j
  set_elsewhere [] k j q other = refl
  set_elsewhere (x ∷ xs) zero zero q other = absurd (other refl)
  set_elsewhere (x ∷ xs) zero (suc j) q other = refl
  set_elsewhere (x ∷ xs) (suc k) zero q other = refl
  set_elsewhere (x ∷ xs) (suc k) (suc j) q other = set_elsewhere xs k j q (λ e. other (ap suc e))

  pub map_same : {Y : Type 0} (f : X → Y) (xs : List X) (k : ℕ) (p q : X) → slice_get xs k ≡ Some p → f q ≡ f p → map f (set xs k q) ≡ map f xs
  map_same f [] k p q at same = refl
  map_same f (x ∷ xs) zero p q at same = ap (λ y. y ∷ map f xs) (same ∙ ap f (sym (same_Some x p at)))
  map_same f (x ∷ xs) (suc k) p q at same = ap (λ ys. f x ∷ ys) (map_same f xs k p q at same)

  pub of_all : (P : X → Type 0) (xs : List X) (k : ℕ) (p : X) → All P xs → slice_get xs k ≡ Some p → P p
  of_all P xs k p all at = subst P (get_or_from_slice_get xs k p p at) (all k p (slice_get_within xs k p at))

-- ---- locks and passes in order

pub lock_at : {L P : Type 0} (lock : L → TableId) (state : P → PassState) (ls : List L) (ps : List P) (k : ℕ) (l : L) (p : P) → map (λ (q : PassState). q.lock) (map state ps) ≡ map lock ls
    → slice_get ls k ≡ Some l → slice_get ps k ≡ Some p → (state p).lock ≡ lock l
lock_at lock state [] ps k l p each at pass = cc
lock_at lock state (m ∷ ls) [] k l p each at pass = cc
lock_at {P = P} lock state (m ∷ ls) (q ∷ ps) zero l p each at pass = (let here : (state q).lock ≡ lock m = cc in let one : m ≡ l = same_Some m l at in let other : q ≡ p = same_Some q p pass in ap (λ (x : P). (state x).lock) (sym other) ∙ (here ∙ ap lock one))
lock_at lock state (m ∷ ls) (q ∷ ps) (suc k) l p each at pass = lock_at lock state ls ps k l p (let rest : map (λ (x : PassState). x.lock) (map state ps) ≡ map lock ls = cc in rest) at pass

pub state_at : {P : Type 0} (state : P → PassState) (ps : List P) (k : ℕ) (p : P) → slice_get ps k ≡ Some p → slice_get (map state ps) k ≡ Some (state p)
state_at state ps k p at = slice_get-map state ps k ∙ ap (option_map state) at

-- ---- the pass p of account k became q

module _ (rules : Rules) (passes : List PassState) (turns k : ℕ) (p q : PassState) (at : slice_get passes k ≡ Some p) where
  there : k < length passes
  there = slice_get_within passes k p at

  before : {Y : Type 0} (f : PassState → Y) (d : Y) → option_map_or f (slice_get passes k) d ≡ f p
  before f d = ap (λ (o : Option PassState). option_map_or f o d) at

  after : {Y : Type 0} (f : PassState → Y) (d : Y) → option_map_or f (slice_get (set passes k q) k) d ≡ f q
  after f d = ap (λ (o : Option PassState). option_map_or f o d) (set_here passes k q there)

  elsewhere : {Y : Type 0} (f : PassState → Y) (d : Y) (j : ℕ) → j ≢ k → option_map_or f (slice_get (set passes k q) j) d ≡ option_map_or f (slice_get passes j) d
  elsewhere f d j other = ap (λ (o : Option PassState). option_map_or f o d) (set_elsewhere passes k j q other)

  everywhere : {Y : Type 0} (f : PassState → Y) (d : Y) → f q ≡ f p → (j : ℕ) → option_map_or f (slice_get (set passes k q) j) d ≡ option_map_or f (slice_get passes j) d
  everywhere f d same j = dite (ℕ_discrete j k)
      (λ e. subst (λ (i : ℕ). option_map_or f (slice_get (set passes k q) i) d ≡ option_map_or f (slice_get passes i) d) (sym e) (after f d ∙ (same ∙ sym (before f d))))
      (λ other. elsewhere f d j other)

  beside : q.base ≡ p.base → q.number ≡ p.number → StaysBeside (shown_by_passes rules (passes, turns)) (shown_by_passes rules (set passes k q, turns + 1)) k
  beside base number = record {
    accounts = length-set passes k q;
    rules = refl;
    turns = refl;
    base = everywhere (λ x. x.base) no_base base;
    author = everywhere (λ x. x.number) 0 number;
    seen = λ j other. elsewhere (λ x. x.seen) [] j other;
    last = λ j other. (let e = elsewhere (λ x. x.turns) 0 j other in omega (arith, e));
  }

  extends : (h : List Entry) → Extends p.number p.seen h → Extends ((shown_by_passes rules (passes, turns)).author k) ((shown_by_passes rules (passes, turns)).seen k) h
  extends h e = subst (λ (x : ℕ × List Entry). Extends x.0 x.1 h) (λ i. (sym (before (λ x. x.number) 0) i, sym (before (λ x. x.seen) []) i)) e

  module _ (call : Call) (moment : ℤ) where
    answered : (reply : Reply) → IsAnswered rules.answer rules.added rules.unkept call moment reply p q → Answered (shown_by_passes rules (passes, turns)) (shown_by_passes rules (set passes k q, turns + 1)) k call moment reply
    answered reply a =
        let base = before (λ x. x.base) no_base in
        let author = before (λ x. x.number) 0 in
        let late = before (λ x. x.turns) 0 in
        let last : option_map_or (λ (x : PassState). x.turns) (slice_get (set passes k q) k) 0 ≡ p.turns + 1 = after (λ x. x.turns) 0 ∙ ap (λ x. x.turns) a.new_state in
        record {
          beside = beside (ap (λ x. x.base) a.new_state) (ap (λ x. x.number) a.new_state);
          history = a.history;
          begins = extends a.history a.begins;
          later = omega (arith, last, late);
          came = a.came;
          acts = subst (λ (y : Base × Stamp). Acts rules.answer rules.added rules.unkept y.0 a.history call y.1 reply a.came) (λ i. (sym base i, record { author = sym author i; turn = sym last i; moment = moment })) a.acts;
          seen = after (λ x. x.seen) [] ∙ ap (λ x. x.seen) a.new_state;
        }

    missed : HasFailed p q → Missed (shown_by_passes rules (passes, turns)) (shown_by_passes rules (set passes k q, turns + 1)) k
    missed f =
        let late = before (λ x. x.turns) 0 in
        let last : option_map_or (λ (x : PassState). x.turns) (slice_get (set passes k q) k) 0 ≡ p.turns + 1 = after (λ x. x.turns) 0 ∙ ap (λ x. x.turns) f.new_state in
        record {
          beside = beside (ap (λ x. x.base) f.new_state) (ap (λ x. x.number) f.new_state);
          begins = subst (Extends ((shown_by_passes rules (passes, turns)).author k) ((shown_by_passes rules (passes, turns)).seen k)) (sym (after (λ x. x.seen) [])) (extends q.seen f.begins);
          later = omega (arith, last, late);
        }

    -- what the lock promises of the call
    pub record Passed (r : Result Reply CallError) : Type 0 where
      pub answers : IfOk r (λ x. IsAnswered rules.answer rules.added rules.unkept call moment x p q)
      pub fails : IfErr r (λ e. e ≡ pass.NoMemory → HasFailed p q)
      pub spent : r ≡ Err pass.PassSpent → p.turns ≡ most_turns

    pub shared_called : (r : Result Reply CallError) → Passed r → turns < most_turns → p.turns ≤ turns
        → Called (shown_by_passes rules (passes, turns)) (shown_by_passes rules (set passes k q, turns + 1)) k call moment (through_pass r)
    shared_called (Ok reply) x few counted = (few, answered reply x.answers)
    shared_called (Err pass.NoMemory) x few counted = (few, missed (x.fails refl))
    shared_called (Err pass.PassSpent) x few counted = absurd (let e = x.spent refl in omega (arith, e, few, counted))

    turned : (r : Result Reply CallError) → Passed r → turns < most_turns → p.turns ≤ turns → (q.turns ≡ p.turns + 1) × (q.lock ≡ p.lock)
    turned (Ok reply) x few counted = (ap (λ y. y.turns) x.answers.new_state, ap (λ y. y.lock) x.answers.new_state)
    turned (Err pass.NoMemory) x few counted = (ap (λ y. y.turns) (x.fails refl).new_state, ap (λ y. y.lock) (x.fails refl).new_state)
    turned (Err pass.PassSpent) x few counted = absurd (let e = x.spent refl in omega (arith, e, few, counted))

    pub still_shared : (locks : List TableId) (r : Result Reply CallError) → Passed r → turns < most_turns → IsSharedDesk locks passes turns → IsSharedDesk locks (set passes k q) (turns + 1)
    still_shared locks r x few shared =
        let counted : p.turns ≤ turns = of_all (λ (y : PassState). y.turns ≤ turns) passes k p shared.counted at in
        let t = turned r x few counted in
        record {
          of_locks = map_same (λ (y : PassState). y.lock) passes k p q at t.1 ∙ shared.of_locks;
          few = (let l = length-set passes k q in let f = shared.few in omega (arith, l, f));
          counted = All-set (λ (y : PassState). y.turns ≤ turns + 1) passes k q (let e = t.0 in omega (arith, e, counted)) (λ i d lt. (let h = shared.counted i d lt in omega (arith, h)));
          within = omega (arith, few);
        }

-- ---- a new desk

greatest-snoc : (ps : List PassState) (p : PassState) → greatest_turn (ps ++ p ∷ []) ≡ max p.turns (greatest_turn ps)
greatest-snoc [] p = refl
greatest-snoc (q ∷ ps) p = (let e = greatest-snoc ps p in grind (arith, e))

pub turns_so_far : (ps : List PassState) (i : ℕ) (p : PassState) (n m : ℕ) → i < length ps → p ≡ get_or ps i p → n ≡ greatest_turn (take i ps) → m ≡ max p.turns n → m ≡ greatest_turn (take (i + 1) ps)
turns_so_far ps i p n m there is before more =
    more ∙ (ap (max p.turns) before ∙ (sym (greatest-snoc (take i ps) p) ∙ ap greatest_turn (ap (λ (q : PassState). take i ps ++ q ∷ []) is ∙ sym (take_more ps i p there))))

none_greater : (ps : List PassState) (n : ℕ) → greatest_turn ps ≤ n → ByRecursion (λ (p : PassState). p.turns ≤ n) ps
none_greater [] n h = tt
none_greater (p ∷ ps) n h = (grind (arith, h), none_greater ps n (grind (arith, h)))

pub just_shared : (locks : List TableId) (ps : List PassState) (i n : ℕ) → map (λ (p : PassState). p.lock) ps ≡ locks → length ps < 2 ^ 32 → length ps ≤ i → n ≡ greatest_turn (take i ps) → n ≤ most_turns → IsSharedDesk locks ps n
just_shared locks ps i n of_locks few over greatest within =
    let all : n ≡ greatest_turn ps = greatest ∙ ap greatest_turn (take_all i ps over) in
    record {
      of_locks = of_locks;
      few = few;
      counted = All-from_recursion (λ (p : PassState). p.turns ≤ n) ps (none_greater ps n (omega (arith, all)));
      within = within;
    }
