-- A binary search among the occurrences that exceptions give finds the first that comes later.
use Rattle.std.proofs.Common.{◌≡◌, ◌∙◌, ◌⊎◌, ◌&&◌, ◌||◌, ◌==◌, ℕ, ◌+◌, ◌<◌, ◌≤◌, ℤ, ◌<ℤ◌, ◌≤ℤ◌, inl, inr, Bool, true, false, not, int_lt, List, length, slice_index_or, Option, MatchOption, Bor, Some, None, Ordering, Decides, Less, Equal, Greater, refl, sym, ap, subst, arith, ⊎_elim}
use Rattle.std.specs.Cmp.{IsStrictWeakOrder, booleans_Decides}
use Rattle.std.specs.List.{Any, HoldsAt, list_any}
use Rattle.std.specs.List.Sorted.{IsPartitionPoint, IsPartitionedBy, IsSortedBy, IsSortedByKey}
use Rattle.std.specs.Option.{option_copied, option_map_or}
use Rattle.std.specs.Ordering.{int_cmp, int_eq, is_eq, is_lt, ordering_then}
use Rattle.std.proofs.lemmas.Bool.{and_from, and_parts, cases_lt, false_from_ne_true, or_cases, or_left, or_right}
use Rattle.std.proofs.lemmas.Bool.Decides.{Decides-and, Decides-eqb, Decides-int_eq}
use Rattle.std.proofs.lemmas.Int.{by_lt_z, ints}
use Rattle.std.proofs.lemmas.List.Folds.{Any-from_list_any, list_any_at}
use Rattle.std.proofs.lemmas.List.Sorted.{sorted_far}
use Rattle.std.proofs.lemmas.Map.Keys.{any_passes_from_place}
use Rattle.std.proofs.lemmas.Option.{slice_get-get_or}
use mathlib.Core.Bool.{beq}
use Rattle.spec_series.specs.Given.{gives_one, is_after, is_past, is_sooner, replacement, IsFirstOf, IsLaterAt, IsReplacement}
use Rattle.spec_series.specs.declared.exception.Exception.{Exception}
use Rattle.spec_series.specs.declared.exception.Span.{Span}
use Rattle.spec_series.specs.declared.occurrence.Occurrence.{Occurrence}

by_bool : {Q : Type 0} (b : Bool) → (b ≡ true → Q) → (b ≡ false → Q) → Q
by_bool true f g = f refl
by_bool false f g = g refl

is_less : (x y : ℤ) → x <ℤ y → int_lt x y ≡ true
is_less x y h = grind (arith, ints)

less_is : (x y : ℤ) → int_lt x y ≡ true → x <ℤ y
less_is x y h = grind (arith, ints)

by_lt_n : {Q : Type 0} (a b : ℕ) → (a < b → Q) → (b ≤ a → Q) → Q
by_lt_n a b f g = ⊎_elim f g (cases_lt a b)

-- The order of occurrences.

pub sooner_cases : (a b : Occurrence) → is_sooner a b ≡ true → (a.start <ℤ b.start) ⊎ ((a.start ≡ b.start) × (a.rid <ℤ b.rid))
unfolding is_sooner
sooner_cases a b h = elim (or_cases (int_lt a.start b.start) _ h) [
  | inl lt ↦ inl (less_is a.start b.start lt)
  | inr more ↦ let x = and_parts (int_eq a.start b.start) _ more in inr ((Decides-int_eq a.start b.start).0 x.0, less_is a.rid b.rid x.1)
]

pub sooner_by : (a b : Occurrence) → ((a.start <ℤ b.start) ⊎ ((a.start ≡ b.start) × (a.rid <ℤ b.rid))) → is_sooner a b ≡ true
unfolding is_sooner
sooner_by a b h = elim h [
  | inl lt ↦ or_left (int_lt a.start b.start) _ (is_less a.start b.start lt)
  | inr more ↦ or_right (int_lt a.start b.start) _ (and_from (int_eq a.start b.start) _ ((Decides-int_eq a.start b.start).1 more.0) (is_less a.rid b.rid more.1))
]

-- one of two is sooner, or neither
pub sooner_either : (q a b : Occurrence) → is_sooner q a ≡ true → is_sooner b a ≡ false → is_sooner q b ≡ true
sooner_either q a b h k =
    let no : is_sooner b a ≡ true → ⊥ = λ e. cc in
    sooner_by q b (elim (sooner_cases q a h) [
      | inl lt ↦ by_lt_z q.start b.start (λ x. inl x) (λ x. absurd (no (sooner_by b a (inl (omega (arith, ints, lt, x))))))
      | inr e ↦ by_lt_z a.start b.start
          (λ x. inl (omega (arith, ints, e.0, x)))
          (λ x. by_lt_z b.start a.start
          (λ y. absurd (no (sooner_by b a (inl y))))
          (λ y. inr (omega (arith, ints, e.0, x, y), by_lt_z q.rid b.rid (λ z. z) (λ z. absurd (no (sooner_by b a (inr (omega (arith, ints, x, y), omega (arith, ints, e.1, z)))))))))
    ])

sooner_order : IsStrictWeakOrder is_sooner
sooner_order = record {
  one_way = λ x y h. false_from_ne_true (is_sooner y x) (λ k. elim (sooner_cases x y h) [
    | inl lt ↦ elim (sooner_cases y x k) [ inl gt ↦ omega (arith, ints, lt, gt) | inr e ↦ omega (arith, ints, lt, e.0) ]
    | inr e ↦ elim (sooner_cases y x k) [ inl gt ↦ omega (arith, ints, e.0, gt) | inr f ↦ omega (arith, ints, e.1, f.1) ]
  ]);
  chain = λ x y z h k. false_from_ne_true (is_sooner x z) (λ t. let no = sooner_either x z y t k in cc);
}

lt_is : (x y : ℤ) → int_lt x y ≡ is_lt (int_cmp x y)
lt_is x y = by_bool (int_lt x y) (λ e. rw e refl) (λ e. by_bool (int_lt y x) (λ f. rw (e, f) refl) (λ f. rw (e, f) refl))

then_less : (o p : Ordering) → (is_lt o || (is_eq o && is_lt p)) ≡ is_lt (ordering_then o p)
then_less Less p = refl
then_less Equal p = refl
then_less Greater p = refl

by_key : (a b : Occurrence) → is_sooner a b ≡ is_lt (ordering_then (int_cmp a.start b.start) (int_cmp a.rid b.rid))
unfolding is_sooner
by_key a b = (λ i. lt_is a.start b.start i || (int_eq a.start b.start && lt_is a.rid b.rid i)) ∙ then_less (int_cmp a.start b.start) (int_cmp a.rid b.rid)

-- what was sorted by start and recurrence id is in this order
pub sorted_by_key : (os : List Occurrence) → IsSortedByKey (λ (o : Occurrence). (o.start, o.rid)) (λ (a b : ℤ × ℤ). ordering_then (int_cmp a.0 b.0) (int_cmp a.1 b.1)) os → IsSortedBy is_sooner os
sorted_by_key os up k d low high = by_key (slice_index_or os (k + 1) d) (slice_index_or os k d) ∙ up k d low high

-- Those that come later than others.

pub after_cases : (from : ℤ) (past : Option ℤ) (start rid : ℤ) → is_after from past start rid ≡ true → (from <ℤ start) ⊎ ((start ≡ from) × (is_past past rid ≡ true))
unfolding is_after
after_cases from past start rid h = elim (or_cases (int_lt from start) _ h) [
  | inl lt ↦ inl (less_is from start lt)
  | inr more ↦ let x = and_parts (int_eq start from) _ more in inr ((Decides-int_eq start from).0 x.0, x.1)
]

pub after_by : (from : ℤ) (past : Option ℤ) (start rid : ℤ) → (from <ℤ start) ⊎ ((start ≡ from) × (is_past past rid ≡ true)) → is_after from past start rid ≡ true
unfolding is_after
after_by from past start rid h = elim h [
  | inl lt ↦ or_left (int_lt from start) _ (is_less from start lt)
  | inr more ↦ or_right (int_lt from start) _ (and_from (int_eq start from) _ ((Decides-int_eq start from).1 more.0) more.1)
]

past_more : (past : Option ℤ) (r t : ℤ) → r ≤ℤ t → is_past past r ≡ true → is_past past t ≡ true
past_more None r t le h = refl
past_more (Some p) r t le h = is_less p t (omega (arith, ints, le, less_is p r h))

-- what isn't sooner than one that comes later comes later too
after_more : (from : ℤ) (past : Option ℤ) (a b : Occurrence) → is_sooner b a ≡ false → is_after from past a.start a.rid ≡ true → is_after from past b.start b.rid ≡ true
after_more from past a b h k =
    let no : is_sooner b a ≡ true → ⊥ = λ e. cc in
    let le : a.start ≤ℤ b.start = by_lt_z b.start a.start (λ lt. absurd (no (sooner_by b a (inl lt)))) (λ ge. ge) in
    after_by from past b.start b.rid (elim (after_cases from past a.start a.rid k) [
      | inl lt ↦ inl (omega (arith, ints, lt, le))
      | inr e ↦ by_lt_z from b.start
          (λ lt. inl lt)
          (λ ge.
          let same : b.start ≡ a.start = omega (arith, ints, le, ge, e.0) in
          let later : a.rid ≤ℤ b.rid = by_lt_z b.rid a.rid (λ lt. absurd (no (sooner_by b a (inr (same, lt))))) (λ le. le) in
          inr (omega (arith, ints, same, e.0), past_more past a.rid b.rid later e.1))
    ])

-- in order, those that come later stand behind the others
pub parted : (from : ℤ) (past : Option ℤ) (os : List Occurrence) → IsSortedBy is_sooner os → IsPartitionedBy (λ o. not (is_after from past o.start o.rid)) os
parted from past os up i j d le below h =
    let back = sorted_far is_sooner sooner_order os up i j d le below in
    by_bool (is_after from past (slice_index_or os i d).start (slice_index_or os i d).rid)
    (λ e. let more = after_more from past (slice_index_or os i d) (slice_index_or os j d) back e in cc)
    (λ e. rw e refl)

-- The exceptions that give them.

is_same : Occurrence → Occurrence → Bool
is_same a b = (int_eq a.rid b.rid && int_eq a.start b.start) && (((a.length.days == b.length.days) && (a.length.seconds == b.length.seconds)) && beq a.occupying b.occupying)

same_decides : (a b : Occurrence)
    → Decides (is_same a b) (((a.rid ≡ b.rid) × (a.start ≡ b.start)) × (((a.length.days ≡ b.length.days) × (a.length.seconds ≡ b.length.seconds)) × (a.occupying ≡ b.occupying)))
unfolding is_same
same_decides a b =
    Decides-and _ _ (Decides-and _ _ (Decides-int_eq a.rid b.rid) (Decides-int_eq a.start b.start))
    (Decides-and _ _ (Decides-and _ _ (Decides-eqb a.length.days b.length.days) (Decides-eqb a.length.seconds b.length.seconds)) (booleans_Decides a.occupying b.occupying))

same_is : (a b : Occurrence) → is_same a b ≡ true → a ≡ b
same_is a b h =
    let e = (same_decides a b).0 h in
    λ i. record { rid = e.0.0 i; start = e.0.1 i; length = record { days = e.1.0.0 i; seconds = e.1.0.1 i }; occupying = e.1.1 i }

given_at : (p : Occurrence → Bool) (rid : ℤ) (t : Option Span) → option_map_or (λ span. p (replacement rid span)) t false ≡ true → (s : Span) × ((t ≡ Some s) × (p (replacement rid s) ≡ true))
given_at p rid None h = cc
given_at p rid (Some s) h = (s, (refl, h))

-- an exception gives the occurrence that passes
gives_is : (p : Occurrence → Bool) (x : Exception) → gives_one p x ≡ true → (o : Occurrence) × (IsReplacement x o × (p o ≡ true))
gives_is p x h = let g = given_at p x.rid x.replaced h in (replacement x.rid g.0, (ap (λ t. record { rid = x.rid; replaced = t }) g.1.0, g.1.1))

is_given : (p : Occurrence → Bool) (x : Exception) (o : Occurrence) → IsReplacement x o → p o ≡ true → gives_one p x ≡ true
is_given p x o e h = subst (λ y. gives_one p y ≡ true) (sym e) h

module _ (xs : List Exception) (os : List Occurrence) (same : (p : Occurrence → Bool) → list_any p os ≡ list_any (gives_one p) xs) (up : IsSortedBy is_sooner os) (from : ℤ) (past : Option ℤ) (i : ℕ)
    (point : IsPartitionPoint (λ o. not (is_after from past o.start o.rid) ≡ true) (λ o. not (is_after from past o.start o.rid) ≡ false) os i) where
  -- what passes stands in the list where an exception gives it
  among : (p : Occurrence → Bool) (k : ℕ) (q : Occurrence) → IsLaterAt from past xs k q → p q ≡ true → Any (λ o. p o ≡ true) os
  among p k q m h = Any-from_list_any p os (same p ∙ any_passes_from_place (gives_one p) xs k m.0 m.1.0 (is_given p m.0 q m.1.1.0 h))

  -- what comes later stands behind the point
  behind : (j : ℕ) (o : Occurrence) → slice_index_or os j o ≡ o → is_after from past o.start o.rid ≡ true → j < i → ⊥
  behind j o at h lt = let no = rw (at, h) at (point.0 j o (omega arith) lt) in absurd (cc no)

  later_here : (x : Occurrence) → i < length os → slice_index_or os i x ≡ x → is_after from past x.start x.rid ≡ true
  later_here x lt here = by_bool (is_after from past x.start x.rid) (λ e. e) (λ e. let no = rw (here, e) at (point.1 i x (omega arith) lt) in absurd (cc no))

  given_here : (x : Occurrence) → i < length os → slice_index_or os i x ≡ x → (k : ℕ) × IsLaterAt from past xs k x
  given_here x lt here =
      let stands = list_any_at (is_same x) os i x lt (rw here ((same_decides x x).1 ((refl, refl), ((refl, refl), refl)))) in
      let by = Any-from_list_any (gives_one (is_same x)) xs (sym (same (is_same x)) ∙ stands) in
      let y = by.1 in
      let given = gives_is (is_same x) y by.4 in (
        by.0,
        (
          y,
          (
            slice_get-get_or xs by.0 y by.2 ∙ ap (λ z. Some z) by.3,
            (subst (IsReplacement y) (sym (same_is x given.0 given.1.1)) given.1.0, later_here x lt here),
          ),
        ),
      )

  pub first_given : (o : Option (Bor Occurrence)) → MatchOption o (length os ≤ i) (λ x. (i < length os) × HoldsAt (λ y. x.now ≡ y) os i) → IsFirstOf (λ q. (k : ℕ) × IsLaterAt from past xs k q) (option_copied o)
  first_given None end = λ q m. let a = among (λ o. is_after from past o.start o.rid) m.0 q m.1 m.1.1.1.1 in behind a.0 a.1 a.3 a.4 (omega (arith, end, a.2))
  first_given (Some b) at =
      let x = b.now in (
        given_here x at.0 (sym (at.1 x)),
        λ q m. false_from_ne_true (is_sooner q x) (λ t.
            let a = among (λ o. is_after from past o.start o.rid && is_sooner o x) m.0 q m.1 (and_from (is_after from past q.start q.rid) (is_sooner q x) m.1.1.1.1 t) in
            let y = a.1 in
            let both = and_parts (is_after from past y.start y.rid) (is_sooner y x) a.4 in
            by_lt_n a.0 i
            (λ lt. behind a.0 y a.3 both.0 lt)
            (λ ge. let no = rw (a.3, ← (at.1 y)) at (sorted_far is_sooner sooner_order os up i a.0 y ge a.2) in absurd (cc (no, both.1)))),
      )
