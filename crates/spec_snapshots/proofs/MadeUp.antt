-- A history that leaves what is kept, where some history does.
use Rattle.std.proofs.Common.{◌≡◌, ◌∙◌, ◌+◌, ◌-◌, ◌≤◌, ◌<◌, ◌==◌, ◌&&◌, ◌||◌, not, cond, ℕ, zero, suc, List, [], ◌∷◌, ◌++◌, Bool, true, false, Option, Some, None, length, arith, refl, sym, ap, subst, if◌then◌else◌}
use Rattle.std.specs.Prelude.{nat_le}
use Rattle.std.proofs.lemmas.Bool.{and_parts, false≢true, leb-true, le-leb, and_from}
use Rattle.std.proofs.lemmas.Bool.Decides.{nat_tests}
use Rattle.std.proofs.lemmas.List.Sums.{sum_by-cons}
use Rattle.std.proofs.lemmas.List.Folds.{list_any-append}
use Rattle.std.specs.List.{range_with_len}
use Rattle.spec_history.specs.History.{count_of_kind, ids_at, ids_from, is_kind, live_object, names, object_from, with_id}
use Rattle.spec_history.specs.Pages.{is_in}
use Rattle.spec_history.specs.declared.entry.Change.{Change}
use Rattle.spec_history.specs.declared.entry.Kind.{Kind}
use Rattle.spec_history.specs.declared.entry.Kind.TheVariants.{Calendar, Event}
use Rattle.spec_json.specs.declared.tree.Tree.{Tree}
use Rattle.spec_json.specs.declared.tree.Tree.TheVariants.{Null}
use Rattle.spec_snapshots.specs.Kept.{IsFloor, is_floor, object_among, rise_within}
use Rattle.spec_snapshots.specs.declared.kept.KindFloor.{KindFloor}
use Rattle.spec_snapshots.specs.declared.kept.LiveObject.{LiveObject}

-- ---- Tests of numbers.

above : (a b : ℕ) → a < b → (a == b) ≡ false
above a b h = grind (arith, nat_tests)

below : (a b : ℕ) → a < b → (b == a) ≡ false
below a b h = grind (arith, nat_tests)

same : (a b : ℕ) → (a == b) ≡ true → a ≡ b
same a b h = grind (arith, nat_tests)

other : (a b : ℕ) → (b == a) ≡ false → a ≤ b → a < b
other a b h low = grind (arith, nat_tests)

pub itself : (a : ℕ) → (a == a) ≡ true
itself a = grind (arith, nat_tests)

abbrev pub one_if : Bool → ℕ
one_if b = if b then 1 else 0

pub own_kind : (q : Kind) → is_kind q q ≡ true
own_kind Calendar = refl
own_kind Event = refl

-- ---- Objects whose numbers rise.

record Within (low most : ℕ) (l : LiveObject) (ls : List LiveObject) : Type 0 where
  from : low ≤ l.id
  to : l.id ≤ most
  rest : rise_within (suc l.id) most ls ≡ true

within : (low most : ℕ) (l : LiveObject) (ls : List LiveObject) → rise_within low most (l ∷ ls) ≡ true → Within low most l ls
within low most l ls h =
    let parts = and_parts _ (rise_within (suc l.id) most ls) h in
    let bounds = and_parts (nat_le low l.id) (nat_le l.id most) parts.0 in
    record { from = leb-true low l.id bounds.0; to = leb-true l.id most bounds.1; rest = parts.1 }

-- from a greater number on, where the first isn't of the lower one
later : (low most : ℕ) (l : LiveObject) (ls : List LiveObject) → Within low most l ls → (l.id == low) ≡ false → rise_within (suc low) most (l ∷ ls) ≡ true
later low most l ls w differs =
    let up : low < l.id = other low l.id differs w.from in
    and_from _ _ (and_from _ _ (le-leb (suc low) l.id (omega (arith, up))) (le-leb l.id most w.to)) w.rest

-- none is of a lower number
none_below : (low most : ℕ) (ls : List LiveObject) (id : ℕ) → id < low → rise_within low most ls ≡ true → object_among ls id ≡ None
none_below low most [] id h up = refl
none_below low most (l ∷ ls) id h up =
    let w = within low most l ls up in
    ap (λ b. if b then Some l.object else object_among ls id) (below id l.id (omega (arith, h, w.from))) ∙ none_below (suc l.id) most ls id (omega (arith, h, w.from)) w.rest

-- ---- The changes of one kind.

module _ (kind : Kind) where
  abbrev pub step : ℕ → Option Tree → Change
  step id o = record { kind = kind; id = id; object = o }

  -- of so many numbers from n on, in order, a put of what is live of each, or of something, which is then removed
  abbrev pub past : ℕ → ℕ → List LiveObject → List Change
  past zero n ls = []
  past (suc m) n [] = step n (Some Null) ∷ step n None ∷ past m (suc n) []
  past (suc m) n (l ∷ ls) = if l.id == n then step n (Some l.object) ∷ past m (suc n) ls else step n (Some Null) ∷ step n None ∷ past m (suc n) (l ∷ ls)

  -- ---- What is live behind them.

  named : (id n : ℕ) (o : Option Tree) → names kind id (step n o) ≡ (id == n)
  named id n o = ap (λ b. b && (id == n)) (own_kind kind)

  pub put_one : (id n : ℕ) (o before : Option Tree) (cs : List Change) → object_from before (step n o ∷ cs) kind id ≡ object_from (if id == n then o else before) cs kind id
  put_one id n o before cs = ap (λ b. object_from (if b then o else before) cs kind id) (named id n o)

  put_gone : (id n : ℕ) (before : Option Tree) (cs : List Change) → object_from before (step n (Some Null) ∷ step n None ∷ cs) kind id ≡ object_from (if id == n then None else before) cs kind id
  put_gone id n before cs =
      put_one id n (Some Null) before (step n None ∷ cs) ∙ put_one id n None (if id == n then Some Null else before) cs ∙ ap (λ o. object_from o cs kind id) (twice (id == n))
    where
      twice : (b : Bool) → (if b then None else (if b then Some Null else before)) ≡ (if b then None else before)
      twice true = refl
      twice false = refl

  -- a number below them is named by none
  unnamed : (m n : ℕ) (ls : List LiveObject) (id : ℕ) (before : Option Tree) → id < n → object_from before (past m n ls) kind id ≡ before
  unnamed zero n ls id before h = refl
  unnamed (suc m) n [] id before h =
      put_gone id n before (past m (suc n) []) ∙ ap (λ b. object_from (if b then None else before) (past m (suc n) []) kind id) (above id n h) ∙ unnamed m (suc n) [] id before (omega (arith, h))
  unnamed (suc m) n (l ∷ ls) id before h = by_cases (l.id == n) (unnamed m (suc n) ls id before (omega (arith, h))) (unnamed m (suc n) (l ∷ ls) id before (omega (arith, h)))
    where
      by_cases : (b : Bool) → object_from before (past m (suc n) ls) kind id ≡ before → object_from before (past m (suc n) (l ∷ ls)) kind id ≡ before
          → object_from before (cond b (step n (Some l.object) ∷ past m (suc n) ls) (step n (Some Null) ∷ step n None ∷ past m (suc n) (l ∷ ls))) kind id ≡ before
      by_cases true rest all =
          put_one id n (Some l.object) before (past m (suc n) ls) ∙ ap (λ b. object_from (if b then Some l.object else before) (past m (suc n) ls) kind id) (above id n h) ∙ rest
      by_cases false rest all =
          put_gone id n before (past m (suc n) (l ∷ ls)) ∙ ap (λ b. object_from (if b then None else before) (past m (suc n) (l ∷ ls)) kind id) (above id n h) ∙ all

  either_way : (b : Bool) (o : Option Tree) → (if b then o else o) ≡ o
  either_way true o = refl
  either_way false o = refl

  -- what is live is what was given
  live_past : (m n most : ℕ) (ls : List LiveObject) (id : ℕ) → n + m ≡ suc most → rise_within n most ls ≡ true → object_from None (past m n ls) kind id ≡ object_among ls id
  live_past zero n most [] id e h = refl
  live_past zero n most (l ∷ ls) id e h = let w = within n most l ls h in absurd (omega (arith, e, w.from, w.to))
  live_past (suc m) n most [] id e h =
      put_gone id n None (past m (suc n) []) ∙ ap (λ o. object_from o (past m (suc n) []) kind id) (either_way (id == n) None) ∙ live_past m (suc n) most [] id (omega (arith, e)) refl
  live_past (suc m) n most (l ∷ ls) id e h = by_cases (l.id == n) refl (λ up. live_past m (suc n) most ls id (omega (arith, e)) up) (λ up. live_past m (suc n) most (l ∷ ls) id (omega (arith, e)) up)
    where
      w : Within n most l ls
      w = within n most l ls h

      turned : (id == n) ≡ false → (n == id) ≡ false
      turned g = grind (arith, nat_tests)

      here : l.id ≡ n → (b : Bool) → (id == n) ≡ b → object_from None (past m (suc n) ls) kind id ≡ object_among ls id
          → object_from (if b then Some l.object else None) (past m (suc n) ls) kind id ≡ (if l.id == id then Some l.object else object_among ls id)
      here is true at rest =
          unnamed m (suc n) ls id (Some l.object) (omega (arith, same id n at))
          ∙ ap (λ b. if b then Some l.object else object_among ls id) (sym (ap (λ k. k == id) (is ∙ sym (same id n at)) ∙ itself id))
      here is false at rest = rest ∙ ap (λ b. if b then Some l.object else object_among ls id) (sym (ap (λ k. k == id) is ∙ turned at))

      by_cases : (b : Bool) → (l.id == n) ≡ b → (rise_within (suc n) most ls ≡ true → object_from None (past m (suc n) ls) kind id ≡ object_among ls id)
          → (rise_within (suc n) most (l ∷ ls) ≡ true → object_from None (past m (suc n) (l ∷ ls)) kind id ≡ object_among (l ∷ ls) id)
          → object_from None (cond b (step n (Some l.object) ∷ past m (suc n) ls) (step n (Some Null) ∷ step n None ∷ past m (suc n) (l ∷ ls))) kind id ≡ (if l.id == id then Some l.object else object_among ls id)
      by_cases true is rest all =
          put_one id n (Some l.object) None (past m (suc n) ls) ∙ here (same l.id n is) (id == n) refl (rest (subst (λ k. rise_within (suc k) most ls ≡ true) (same l.id n is) w.rest))
      by_cases false is rest all =
          put_gone id n None (past m (suc n) (l ∷ ls)) ∙ ap (λ o. object_from o (past m (suc n) (l ∷ ls)) kind id) (either_way (id == n) None) ∙ all (later n most l ls w is)

  -- ---- Their numbers are all up to the last one.

  unknown : (a k m : ℕ) → a + k ≤ m → is_in (range_with_len a k) m ≡ false
  unknown a zero m h = refl
  unknown a (suc k) m h = rw (above a m (omega (arith, h))) (unknown (a + 1) k m (omega (arith, h)))

  one_more : (a k : ℕ) → range_with_len a (suc k) ≡ range_with_len a k ++ (a + k) ∷ []
  one_more a zero = ap (λ n. n ∷ []) (omega arith)
  one_more a (suc k) = ap (λ ns. a ∷ ns) (one_more (a + 1) k ∙ ap (λ n. range_with_len (a + 1) k ++ n ∷ []) (omega arith))

  last_one : (k : ℕ) → range_with_len 1 (suc k) ≡ range_with_len 1 k ++ suc k ∷ []
  last_one k = one_more 1 k ∙ ap (λ n. range_with_len 1 k ++ n ∷ []) (omega arith)

  pub put_next : (k : ℕ) → with_id (range_with_len 1 k) (suc k) ≡ range_with_len 1 (suc k)
  put_next k = ap (λ b. if b then range_with_len 1 k else (range_with_len 1 k ++ suc k ∷ [])) (unknown 1 k (suc k) (omega arith)) ∙ sym (last_one k)

  there : (k : ℕ) → is_in (range_with_len 1 (suc k)) (suc k) ≡ true
  there k = ap (λ ns. is_in ns (suc k)) (last_one k) ∙ list_any-append (λ n. n == suc k) (range_with_len 1 k) (suc k ∷ []) ∙ rw (itself (suc k), unknown 1 k (suc k) (omega arith)) refl

  pub put_again : (k : ℕ) → with_id (range_with_len 1 (suc k)) (suc k) ≡ range_with_len 1 (suc k)
  put_again k = ap (λ b. if b then range_with_len 1 (suc k) else (range_with_len 1 (suc k) ++ suc k ∷ [])) (there k)

  pub number_one : (ids : List ℕ) (n : ℕ) (o : Option Tree) (cs : List Change) → ids_from ids (step n o ∷ cs) kind ≡ ids_from (with_id ids n) cs kind
  number_one ids n o cs = ap (λ b. ids_from (if b then with_id ids n else ids) cs kind) (own_kind kind)

  gone_numbers : (m k : ℕ) (cs : List Change) → ids_from (range_with_len 1 (suc k)) cs kind ≡ range_with_len 1 (suc k + m)
      → ids_from (range_with_len 1 k) (step (suc k) (Some Null) ∷ step (suc k) None ∷ cs) kind ≡ range_with_len 1 (k + suc m)
  gone_numbers m k cs rest =
      number_one (range_with_len 1 k) (suc k) (Some Null) (step (suc k) None ∷ cs) ∙ number_one (with_id (range_with_len 1 k) (suc k)) (suc k) None cs
      ∙ ap (λ ns. ids_from ns cs kind) (ap (λ ns. with_id ns (suc k)) (put_next k) ∙ put_again k) ∙ rest ∙ ap (range_with_len 1) (omega arith)

  numbers_past : (m k : ℕ) (ls : List LiveObject) → ids_from (range_with_len 1 k) (past m (suc k) ls) kind ≡ range_with_len 1 (k + m)
  numbers_past zero k ls = ap (range_with_len 1) (omega arith)
  numbers_past (suc m) k [] = gone_numbers m k (past m (suc (suc k)) []) (numbers_past m (suc k) [])
  numbers_past (suc m) k (l ∷ ls) = by_cases (l.id == suc k) (numbers_past m (suc k) ls) (numbers_past m (suc k) (l ∷ ls))
    where
      by_cases : (b : Bool) → ids_from (range_with_len 1 (suc k)) (past m (suc (suc k)) ls) kind ≡ range_with_len 1 (suc k + m)
          → ids_from (range_with_len 1 (suc k)) (past m (suc (suc k)) (l ∷ ls)) kind ≡ range_with_len 1 (suc k + m)
          → ids_from (range_with_len 1 k) (cond b (step (suc k) (Some l.object) ∷ past m (suc (suc k)) ls) (step (suc k) (Some Null) ∷ step (suc k) None ∷ past m (suc (suc k)) (l ∷ ls))) kind
          ≡ range_with_len 1 (k + suc m)
      by_cases false rest all = gone_numbers m k (past m (suc (suc k)) (l ∷ ls)) all
      by_cases true rest all =
          number_one (range_with_len 1 k) (suc k) (Some l.object) (past m (suc (suc k)) ls) ∙ ap (λ ns. ids_from ns (past m (suc (suc k)) ls) kind) (put_next k)
          ∙ rest ∙ ap (range_with_len 1) (omega arith)

  -- ---- How many they are.

  length_past : (m n most : ℕ) (ls : List LiveObject) → n + m ≡ suc most → rise_within n most ls ≡ true → length (past m n ls) + length ls ≡ m + m
  length_past zero n most [] e h = refl
  length_past zero n most (l ∷ ls) e h = let w = within n most l ls h in absurd (omega (arith, e, w.from, w.to))
  length_past (suc m) n most [] e h = omega (arith, length_past m (suc n) most [] (omega (arith, e)) refl)
  length_past (suc m) n most (l ∷ ls) e h = by_cases (l.id == n) refl (λ up. length_past m (suc n) most ls (omega (arith, e)) up) (λ up. length_past m (suc n) most (l ∷ ls) (omega (arith, e)) up)
    where
      w : Within n most l ls
      w = within n most l ls h

      by_cases : (b : Bool) → (l.id == n) ≡ b → (rise_within (suc n) most ls ≡ true → length (past m (suc n) ls) + length ls ≡ m + m)
          → (rise_within (suc n) most (l ∷ ls) ≡ true → length (past m (suc n) (l ∷ ls)) + length (l ∷ ls) ≡ m + m)
          → length (cond b (step n (Some l.object) ∷ past m (suc n) ls) (step n (Some Null) ∷ step n None ∷ past m (suc n) (l ∷ ls))) + length (l ∷ ls) ≡ suc m + suc m
      by_cases true is rest all = omega (arith, rest (subst (λ k. rise_within (suc k) most ls ≡ true) (same l.id n is) w.rest))
      by_cases false is rest all = omega (arith, all (later n most l ls w is))

  few_live : (m n most : ℕ) (ls : List LiveObject) → n + m ≡ suc most → rise_within n most ls ≡ true → length ls ≤ m
  few_live m n most [] e h = omega arith
  few_live zero n most (l ∷ ls) e h = let w = within n most l ls h in absurd (omega (arith, e, w.from, w.to))
  few_live (suc m) n most (l ∷ ls) e h =
      let w = within n most l ls h in
      let rest = few_live (most - l.id) (suc l.id) most ls (omega (arith, w.to)) w.rest in
      omega (arith, rest, e, w.from, w.to)

  -- ---- As many as the state says: the first is made again and again.

  abbrev pub pads : ℕ → Change → List Change → List Change
  pads zero c cs = cs
  pads (suc n) c cs = c ∷ pads n c cs

  abbrev pub padded : ℕ → List Change → List Change
  padded n [] = []
  padded n (c ∷ cs) = pads n c (c ∷ cs)

  length_pads : (n : ℕ) (c : Change) (cs : List Change) → length (pads n c cs) ≡ n + length cs
  length_pads zero c cs = omega arith
  length_pads (suc n) c cs = omega (arith, length_pads n c cs)

  length_padded : (n : ℕ) (cs : List Change) → (length cs ≡ 0 → n ≡ 0) → length (padded n cs) ≡ n + length cs
  length_padded n [] none = omega (arith, none refl)
  length_padded n (c ∷ cs) none = length_pads n c (c ∷ cs)

  object_pads : (n : ℕ) (c : Change) (cs : List Change) (id : ℕ) (before : Option Tree) → object_from before (pads n c (c ∷ cs)) kind id ≡ object_from before (c ∷ cs) kind id
  object_pads zero c cs id before = refl
  object_pads (suc n) c cs id before = object_pads n c cs id (if names kind id c then c.object else before) ∙ ap (λ o. object_from o cs kind id) (twice (names kind id c))
    where
      twice : (b : Bool) → (if b then c.object else (if b then c.object else before)) ≡ (if b then c.object else before)
      twice true = refl
      twice false = refl

  object_padded : (n : ℕ) (cs : List Change) (id : ℕ) → live_object (padded n cs) kind id ≡ live_object cs kind id
  object_padded n [] id = refl
  object_padded n (c ∷ cs) id = object_pads n c cs id None

  known_by : (ids : List ℕ) (id : ℕ) (b : Bool) → is_in ids id ≡ b → is_in (cond b ids (ids ++ id ∷ [])) id ≡ true
  known_by ids id true is = is
  known_by ids id false is = list_any-append (λ n. n == id) ids (id ∷ []) ∙ rw (is, itself id) refl

  with_twice : (ids : List ℕ) (id : ℕ) → with_id (with_id ids id) id ≡ with_id ids id
  with_twice ids id = ap (λ b. if b then with_id ids id else (with_id ids id ++ id ∷ [])) (known_by ids id (is_in ids id) refl)

  id_twice : (b : Bool) (ids : List ℕ) (id : ℕ) → (if b then with_id (if b then with_id ids id else ids) id else (if b then with_id ids id else ids)) ≡ (if b then with_id ids id else ids)
  id_twice true ids id = with_twice ids id
  id_twice false ids id = refl

  numbers_pads : (n : ℕ) (c : Change) (cs : List Change) (ids : List ℕ) → ids_from ids (pads n c (c ∷ cs)) kind ≡ ids_from ids (c ∷ cs) kind
  numbers_pads zero c cs ids = refl
  numbers_pads (suc n) c cs ids =
      numbers_pads n c cs (if is_kind kind c.kind then with_id ids c.id else ids) ∙ ap (λ ns. ids_from ns cs kind) (id_twice (is_kind kind c.kind) ids c.id)

  numbers_padded : (n : ℕ) (cs : List Change) → ids_at (padded n cs) kind ≡ ids_at cs kind
  numbers_padded n [] = refl
  numbers_padded n (c ∷ cs) = numbers_pads n c cs []

  -- ---- All of them are of the kind.

  abbrev pub AreOfKind : List Change → Type 0
  AreOfKind [] = Unit {0}
  AreOfKind (c ∷ cs) = (c.kind ≡ kind) × AreOfKind cs

  of_kind_past : (m n : ℕ) (ls : List LiveObject) → AreOfKind (past m n ls)
  of_kind_past zero n ls = tt
  of_kind_past (suc m) n [] = (refl, (refl, of_kind_past m (suc n) []))
  of_kind_past (suc m) n (l ∷ ls) = by_cases (l.id == n) (of_kind_past m (suc n) ls) (of_kind_past m (suc n) (l ∷ ls))
    where
      by_cases : (b : Bool) → AreOfKind (past m (suc n) ls) → AreOfKind (past m (suc n) (l ∷ ls))
          → AreOfKind (cond b (step n (Some l.object) ∷ past m (suc n) ls) (step n (Some Null) ∷ step n None ∷ past m (suc n) (l ∷ ls)))
      by_cases true rest all = (refl, rest)
      by_cases false rest all = (refl, (refl, all))

  of_kind_pads : (n : ℕ) (c : Change) (cs : List Change) → AreOfKind (c ∷ cs) → AreOfKind (pads n c (c ∷ cs))
  of_kind_pads zero c cs of = of
  of_kind_pads (suc n) c cs of = (of.0, of_kind_pads n c cs of)

  of_kind_padded : (n : ℕ) (cs : List Change) → AreOfKind cs → AreOfKind (padded n cs)
  of_kind_padded n [] of = of
  of_kind_padded n (c ∷ cs) of = of_kind_pads n c cs of

  all_counted : (cs : List Change) → AreOfKind cs → count_of_kind cs kind ≡ length cs
  all_counted [] of = refl
  all_counted (c ∷ cs) of =
      let here : one_if (is_kind kind c.kind) ≡ 1 = ap one_if (ap (is_kind kind) of.0 ∙ own_kind kind) in
      omega (arith, sum_by-cons (λ (d : Change). one_if (is_kind kind d.kind)) c cs, here, all_counted cs of.1)

  -- ---- Changes that leave a floor.

  abbrev pub once : KindFloor → List Change
  once f = past f.created 1 f.live.items

  abbrev pub floor_past : KindFloor → List Change
  floor_past f = padded (f.state - length (once f)) (once f)

  pub past_of_kind : (f : KindFloor) → AreOfKind (floor_past f)
  past_of_kind f = of_kind_padded (f.state - length (once f)) (once f) (of_kind_past f.created 1 f.live.items)

  module _ (f : KindFloor) (is : is_floor f ≡ true) where
    rising : rise_within 1 f.created f.live.items ≡ true
    rising = (and_parts (rise_within 1 f.created f.live.items) _ is).0

    enough : (nat_le (f.created + (f.created - length f.live.items)) f.state ≡ true) × ((not (f.created == 0) || (f.state == 0)) ≡ true)
    enough = and_parts _ _ (and_parts (rise_within 1 f.created f.live.items) _ is).1

    counts : length (once f) ≡ f.created + (f.created - length f.live.items)
    counts = omega (arith, length_past f.created 1 f.created f.live.items (omega arith) rising, few_live f.created 1 f.created f.live.items (omega arith) rising)

    no_state : length (once f) ≡ 0 → f.state ≡ 0
    no_state none = by_tests (f.created == 0) (f.state == 0) refl refl enough.1
      where
        none_made : f.created ≡ 0
        none_made = omega (arith, none, counts)

        by_tests : (a b : Bool) → (f.created == 0) ≡ a → (f.state == 0) ≡ b → (not a || b) ≡ true → f.state ≡ 0
        by_tests a true e g h = same f.state 0 g
        by_tests true false e g h = absurd (false≢true h)
        by_tests false false e g h = absurd (false≢true (sym e ∙ ap (λ n. n == 0) none_made))

    past_length : length (floor_past f) ≡ f.state
    past_length =
        length_padded (f.state - length (once f)) (once f) (λ none. omega (arith, no_state none))
        ∙ omega (arith, counts, leb-true (f.created + (f.created - length f.live.items)) f.state enough.0)

    pub past_leaves : IsFloor (floor_past f) kind f
    past_leaves = record {
      state = sym (all_counted (floor_past f) (past_of_kind f) ∙ past_length);
      numbers = numbers_padded (f.state - length (once f)) (once f) ∙ numbers_past f.created 0 f.live.items ∙ ap (range_with_len 1) (omega arith);
      rising = rising;
      live = λ id. sym (object_padded (f.state - length (once f)) (once f) id ∙ live_past f.created 1 f.created f.live.items id (omega arith) rising);
    }
