-- Changes that are made up for a floor give the numbers of objects in order.
use Rattle.std.proofs.Common.{◌≡◌, ◌∙◌, ◌+◌, ◌-◌, ◌==◌, ◌||◌, cond, ℕ, zero, suc, List, [], ◌∷◌, ◌++◌, append-nil, Bool, true, false, Option, Some, None, is_some, length, refl, sym, ap, subst, if◌then◌else◌}
use Rattle.std.proofs.lemmas.Bool.{and_from, and_parts}
use Rattle.std.specs.List.{range_with_len}
use mathlib.Core.List.{append_assoc}
use Rattle.spec_history.specs.History.{ids_at, ids_from, is_kind, live_object, names, next_number, object_from, with_id}
use Rattle.spec_history.specs.declared.entry.Change.{Change}
use Rattle.spec_history.specs.declared.entry.Kind.{Kind}
use Rattle.spec_json.specs.declared.tree.Tree.{Tree}
use Rattle.spec_json.specs.declared.tree.Tree.TheVariants.{Null}
use Rattle.spec_snapshots.proofs.MadeUp.{floor_past, itself, number_one, once, padded, pads, past, put_again, put_next, put_one, step}
use Rattle.spec_snapshots.specs.Numbered.{are_numbered, is_numbered}
use Rattle.spec_snapshots.specs.declared.kept.KindFloor.{KindFloor}
use Rattle.spec_snapshots.specs.declared.kept.LiveObject.{LiveObject}

-- changes behind others
pub join_numbered : (before cs ds : List Change) → are_numbered before cs ≡ true → are_numbered (before ++ cs) ds ≡ true → are_numbered before (cs ++ ds) ≡ true
join_numbered before [] ds h g = subst (λ (l : List Change). are_numbered l ds ≡ true) (append-nil before) g
join_numbered before (c ∷ cs) ds h g =
    let parts = and_parts (is_numbered before c) (are_numbered (before ++ c ∷ []) cs) h in
    and_from (is_numbered before c) (are_numbered (before ++ c ∷ []) (cs ++ ds)) parts.0
    (join_numbered (before ++ c ∷ []) cs ds parts.1 (subst (λ (l : List Change). are_numbered l ds ≡ true) (sym (append_assoc before (c ∷ []) cs)) g))

-- and so are their parts
pub parts_numbered : (before cs ds : List Change) → are_numbered before (cs ++ ds) ≡ true → (are_numbered before cs ≡ true) × (are_numbered (before ++ cs) ds ≡ true)
parts_numbered before [] ds h = (refl, subst (λ (l : List Change). are_numbered l ds ≡ true) (sym (append-nil before)) h)
parts_numbered before (c ∷ cs) ds h =
    let parts = and_parts (is_numbered before c) (are_numbered (before ++ c ∷ []) (cs ++ ds)) h in
    let rest = parts_numbered (before ++ c ∷ []) cs ds parts.1 in
    (and_from (is_numbered before c) (are_numbered (before ++ c ∷ []) cs) parts.0 rest.0, subst (λ (l : List Change). are_numbered l ds ≡ true) (append_assoc before (c ∷ []) cs) rest.1)

or_right : (b : Bool) → (b || true) ≡ true
or_right true = refl
or_right false = refl

length_range : (a k : ℕ) → length (range_with_len a k) ≡ k
length_range a zero = refl
length_range a (suc k) = ap suc (length_range (a + 1) k)

module _ (kind : Kind) where
  -- so many numbers were given
  abbrev pub At : List Change → ℕ → Type 0
  At cs k = ids_at cs kind ≡ range_with_len 1 k

  ids_behind : (cs : List Change) (c : Change) (ids : List ℕ) → ids_from ids (cs ++ c ∷ []) kind ≡ ids_from (ids_from ids cs kind) (c ∷ []) kind
  ids_behind [] c ids = refl
  ids_behind (d ∷ cs) c ids = ids_behind cs c (if is_kind kind d.kind then with_id ids d.id else ids)

  object_behind : (cs : List Change) (c : Change) (id : ℕ) (before : Option Tree) → object_from before (cs ++ c ∷ []) kind id ≡ object_from (object_from before cs kind id) (c ∷ []) kind id
  object_behind [] c id before = refl
  object_behind (d ∷ cs) c id before = object_behind cs c id (if names kind id d then d.object else before)

  at_more : (cs : List Change) (k n : ℕ) (o : Option Tree) → At cs k → ids_at (cs ++ step kind n o ∷ []) kind ≡ with_id (range_with_len 1 k) n
  at_more cs k n o at = ids_behind cs (step kind n o) [] ∙ ap (λ ids. ids_from ids (step kind n o ∷ []) kind) at ∙ number_one kind (range_with_len 1 k) n o []

  at_put : (cs : List Change) (k : ℕ) (o : Option Tree) → At cs k → At (cs ++ step kind (suc k) o ∷ []) (suc k)
  at_put cs k o at = at_more cs k (suc k) o at ∙ put_next kind k

  at_again : (cs : List Change) (k : ℕ) (o : Option Tree) → At cs (suc k) → At (cs ++ step kind (suc k) o ∷ []) (suc k)
  at_again cs k o at = at_more cs (suc k) (suc k) o at ∙ put_again kind k

  live_put : (cs : List Change) (n : ℕ) (t : Tree) → is_some (live_object (cs ++ step kind n (Some t) ∷ []) kind n) ≡ true
  live_put cs n t = ap is_some (
      object_behind cs (step kind n (Some t)) n None ∙ put_one kind n n (Some t) (live_object cs kind n) []
      ∙ ap (λ b. if b then Some t else live_object cs kind n) (itself n))

  -- a put of the next number, and a change of what is live
  next_numbered : (cs : List Change) (k : ℕ) (o : Option Tree) → At cs k → is_numbered cs (step kind (suc k) o) ≡ true
  next_numbered cs k o at =
      ap (λ (n : ℕ). (suc k == suc n) || is_some (live_object cs kind (suc k))) (ap (λ ids. length ids) at ∙ length_range 1 k)
      ∙ ap (λ b. b || is_some (live_object cs kind (suc k))) (itself (suc k))

  live_numbered : (cs : List Change) (n : ℕ) (o : Option Tree) → is_some (live_object cs kind n) ≡ true → is_numbered cs (step kind n o) ≡ true
  live_numbered cs n o live = ap (λ b. (n == next_number cs kind) || b) live ∙ or_right (n == next_number cs kind)

  -- a number that goes again, and what comes behind it
  numbered_gone : (k : ℕ) (ds cs : List Change) → At cs (suc k) → is_some (live_object cs kind (suc k)) ≡ true
      → ((bs : List Change) → At bs (suc k) → are_numbered bs ds ≡ true) → are_numbered cs (step kind (suc k) None ∷ ds) ≡ true
  numbered_gone k ds cs at live rest =
      and_from (is_numbered cs (step kind (suc k) None)) _ (live_numbered cs (suc k) None live) (rest (cs ++ step kind (suc k) None ∷ []) (at_again cs k None at))

  numbered_both : (k : ℕ) (ds cs : List Change) → At cs k → ((bs : List Change) → At bs (suc k) → are_numbered bs ds ≡ true)
      → are_numbered cs (step kind (suc k) (Some Null) ∷ step kind (suc k) None ∷ ds) ≡ true
  numbered_both k ds cs at rest =
      and_from (is_numbered cs (step kind (suc k) (Some Null))) _ (next_numbered cs k (Some Null) at)
      (numbered_gone k ds (cs ++ step kind (suc k) (Some Null) ∷ []) (at_put cs k (Some Null) at) (live_put cs (suc k) Null) rest)

  numbered_past : (m k : ℕ) (ls : List LiveObject) (cs : List Change) → At cs k → are_numbered cs (past kind m (suc k) ls) ≡ true
  numbered_past zero k ls cs at = refl
  numbered_past (suc m) k [] cs at = numbered_both k (past kind m (suc (suc k)) []) cs at (λ bs at'. numbered_past m (suc k) [] bs at')
  numbered_past (suc m) k (l ∷ ls) cs at = by_cases (l.id == suc k) (λ bs at'. numbered_past m (suc k) ls bs at') (λ bs at'. numbered_past m (suc k) (l ∷ ls) bs at')
    where
      by_cases : (b : Bool) → ((bs : List Change) → At bs (suc k) → are_numbered bs (past kind m (suc (suc k)) ls) ≡ true)
          → ((bs : List Change) → At bs (suc k) → are_numbered bs (past kind m (suc (suc k)) (l ∷ ls)) ≡ true)
          → are_numbered cs (cond b (step kind (suc k) (Some l.object) ∷ past kind m (suc (suc k)) ls) (step kind (suc k) (Some Null) ∷ step kind (suc k) None ∷ past kind m (suc (suc k)) (l ∷ ls))) ≡ true
      by_cases true rest all =
          and_from (is_numbered cs (step kind (suc k) (Some l.object))) _ (next_numbered cs k (Some l.object) at)
          (rest (cs ++ step kind (suc k) (Some l.object) ∷ []) (at_put cs k (Some l.object) at))
      by_cases false rest all = numbered_both k (past kind m (suc (suc k)) (l ∷ ls)) cs at all

  -- changes that may come where the first number is live
  abbrev AreBehindFirst : List Change → Type 0
  AreBehindFirst ds = (cs : List Change) → At cs 1 → is_some (live_object cs kind 1) ≡ true → are_numbered cs ds ≡ true

  numbered_pads : (n : ℕ) (t : Tree) (ds cs : List Change) → AreBehindFirst ds → is_numbered cs (step kind 1 (Some t)) ≡ true → At (cs ++ step kind 1 (Some t) ∷ []) 1
      → are_numbered cs (pads kind n (step kind 1 (Some t)) (step kind 1 (Some t) ∷ ds)) ≡ true
  numbered_pads zero t ds cs rest first at = and_from (is_numbered cs (step kind 1 (Some t))) _ first (rest (cs ++ step kind 1 (Some t) ∷ []) at (live_put cs 1 t))
  numbered_pads (suc n) t ds cs rest first at =
      let more = cs ++ step kind 1 (Some t) ∷ [] in
      and_from (is_numbered cs (step kind 1 (Some t))) _ first (numbered_pads n t ds more rest (live_numbered more 1 (Some t) (live_put cs 1 t)) (at_again more 0 (Some t) at))

  numbered_padded : (n m : ℕ) (ls : List LiveObject) (cs : List Change) → At cs 0 → are_numbered cs (padded kind n (past kind m 1 ls)) ≡ true
  numbered_padded n zero ls cs at = refl
  numbered_padded n (suc m) [] cs at = numbered_pads n Null (step kind 1 None ∷ past kind m 2 []) cs (λ ds at' live. numbered_gone 0 (past kind m 2 []) ds at' live (λ bs at''. numbered_past m 1 [] bs at'')) (next_numbered cs 0 (Some Null) at) (at_put cs 0 (Some Null) at)
  numbered_padded n (suc m) (l ∷ ls) cs at = by_cases (l.id == 1)
    where
      by_cases : (b : Bool) → are_numbered cs (padded kind n (cond b (step kind 1 (Some l.object) ∷ past kind m 2 ls) (step kind 1 (Some Null) ∷ step kind 1 None ∷ past kind m 2 (l ∷ ls)))) ≡ true
      by_cases true = numbered_pads n l.object (past kind m 2 ls) cs (λ ds at' live. numbered_past m 1 ls ds at') (next_numbered cs 0 (Some l.object) at) (at_put cs 0 (Some l.object) at)
      by_cases false = numbered_pads n Null (step kind 1 None ∷ past kind m 2 (l ∷ ls)) cs (λ ds at' live. numbered_gone 0 (past kind m 2 (l ∷ ls)) ds at' live (λ bs at''. numbered_past m 1 (l ∷ ls) bs at'')) (next_numbered cs 0 (Some Null) at) (at_put cs 0 (Some Null) at)

  pub floor_numbered : (f : KindFloor) (cs : List Change) → At cs 0 → are_numbered cs (floor_past kind f) ≡ true
  floor_numbered f cs at = numbered_padded (f.state - length (once kind f)) f.created f.live.items cs at
