-- Occurrences that were put in the order of their recurrence ids.
use Rattle.std.proofs.Common.{◌≡◌, ◌∙◌, ℕ, zero, suc, ◌+◌, ◌≤◌, ◌<◌, ℤ, pos, negsuc, ◌+ℤ◌, ◌-ℤ◌, ◌^◌, ◌≤ℤ◌, inl, inr, true, false, cond, List, [], ◌∷◌, Some, length, slice_get, slice_index_or, refl, sym, ap, subst, arith}
use Rattle.std.specs.Prelude.{All, ◌&&◌}
use Rattle.std.specs.List.{AllByRecursion, sum_by}
use Rattle.std.specs.List.Sorted.{IsPermutation, IsSortedByKey}
use Rattle.std.specs.Ordering.{int_cmp, int_eq}
use Rattle.std.proofs.lemmas.Bool.Decides.{Decides-int_eq}
use Rattle.std.proofs.lemmas.Int.{by_lt_z}
use Rattle.std.proofs.lemmas.List.Elements.{recursion_from_All}
use Rattle.std.proofs.lemmas.List.Sums.{sum_by-cons}
use Rattle.std.proofs.lemmas.List.Sorted.{All-permutation, Contains-permutation, sum_by-IsPermutation}
use Rattle.std.proofs.lemmas.Option.{same_Some, slice_get_within}
use Rattle.expanded_query.proofs.Searched.{is_one, listed, rises}
use Rattle.jiff_core.proofs.SignedLemmas.{signed_arith}
use Rattle.jiff_core.specs.Calendar.{IsWithin}
use Rattle.jiff_tz.specs.PosixText.{TzText}
use Rattle.spec_json.proofs.ListTests.{all_at}
use Rattle.spec_queries.specs.Expanded.{occurrences_overlapping, passing_seconds}
use Rattle.spec_events.specs.Values.{is_showing}
use Rattle.spec_series.proofs.Occurrences.{kinds}
use Rattle.spec_series.specs.Numbers.{seconds_around}
use Rattle.spec_series.specs.Occurrences.{occurrence_with}
use Rattle.spec_series.specs.SeriesLimits.{is_span_in_years}
use Rattle.spec_series.specs.declared.exception.Exception.{Exception}
use Rattle.spec_series.specs.declared.occurrence.Occurrence.{Occurrence}
use Rattle.spec_series.specs.declared.series.Series.{Series}
use Rattle.spec_time.specs.Walls.{is_in_years}
use Rattle.spec_windows.specs.Clocks.{instant_in}
use Rattle.spec_windows.specs.Windows.{IsOverlapping, overlaps_window}
use Rattle.spec_windows.specs.declared.window.Window.{Window}
use Rattle.occurrence_windows.proofs.Listing.{by_bool}
use Rattle.occurrence_windows.proofs.Overlapping.{has_overlap}
use Rattle.occurrence_windows.proofs.Passing.{rid_near}
use Rattle.occurrence_windows.proofs.Series.{rid_of, showing_is}
use Rattle.occurrence_windows.proofs.SortedKeys.{first_in_order, rest_in_order}
use Rattle.occurrence_windows.specs.Listing.{IsListOf}
use Rattle.rule_expand.proofs.Places.{and_both}
use Rattle.rule_expand.proofs.Sets.{is_int_le}
use Rattle.spec_series.proofs.Given.{sooner_cases}
use Rattle.spec_series.specs.Given.{is_sooner}
use Rattle.zone_instants.proofs.Readings.{instant-none}

-- How often a recurrence id stands in a list.

abbrev one_at : ℤ → Occurrence → ℕ
one_at r o = cond (int_eq o.rid r) 1 0

abbrev count_at : ℤ → List Occurrence → ℕ
count_at r os = sum_by (one_at r) os

here : (r : ℤ) (o : Occurrence) (os : List Occurrence) → o.rid ≡ r → count_at r (o ∷ os) ≡ 1 + count_at r os
here r o os e = let sum = sum_by-cons (one_at r) o os in let one : one_at r o ≡ 1 = rw ((Decides-int_eq o.rid r).1 e) refl in omega (arith, sum, one)

elsewhere : (r : ℤ) (o : Occurrence) (os : List Occurrence) → int_eq o.rid r ≡ false → count_at r (o ∷ os) ≡ count_at r os
elsewhere r o os e = let sum = sum_by-cons (one_at r) o os in let none : one_at r o ≡ 0 = rw e refl in omega (arith, sum, none)

none_at : (r : ℤ) (os : List Occurrence) → ((k : ℕ) (o : Occurrence) → slice_get os k ≡ Some o → o.rid ≡ r → ⊥) → count_at r os ≡ 0
none_at r [] never = refl
none_at r (o ∷ os) never = by_bool (int_eq o.rid r)
    (λ e. absurd (never 0 o refl ((Decides-int_eq o.rid r).0 e)))
    (λ e. elsewhere r o os e ∙ none_at r os (λ k q h. never (suc k) q h))

at_most_one : (r : ℤ) (os : List Occurrence) → ((j k : ℕ) (a b : Occurrence) → j < k → slice_get os j ≡ Some a → slice_get os k ≡ Some b → a.rid ≡ b.rid → ⊥) → count_at r os ≤ 1
at_most_one r [] unlike = omega arith
at_most_one r (o ∷ os) unlike = by_bool (int_eq o.rid r)
    (λ e.
    let same = (Decides-int_eq o.rid r).0 e in
    let none = none_at r os (λ k q h is. unlike 0 (suc k) o q (omega arith) refl h (same ∙ sym is)) in
    let sum = here r o os same in
    omega (arith, sum, none))
    (λ e.
    let rest = at_most_one r os (λ j k a b lt h g. unlike (suc j) (suc k) a b (omega (arith, lt)) h g) in
    let sum = elsewhere r o os e in
    omega (arith, sum, rest))

fewer : (r : ℤ) (o : Occurrence) (os : List Occurrence) → count_at r (o ∷ os) ≤ 1 → count_at r os ≤ 1
fewer r o os h = let sum = sum_by-cons (one_at r) o os in omega (arith, sum, h)

-- In order, and no recurrence id twice: then they rise.

abbrev pub by_rid : Occurrence → ℤ
by_rid o = o.rid

abbrev pub InOrder : List Occurrence → Type 0
InOrder os = IsSortedByKey by_rid int_cmp os

risen : (low : ℤ) (o : Occurrence) (os : List Occurrence) → low ≤ℤ o.rid → InOrder (o ∷ os) → ((r : ℤ) → count_at r (o ∷ os) ≤ 1) → rises low (o ∷ os)
unfolding rises
risen low o [] first order once = (first, tt)
risen low o (p ∷ ps) first order once =
    let next : o.rid ≤ℤ p.rid = first_in_order by_rid o p ps order in
    let unlike : (p.rid ≡ o.rid) → ⊥ = λ e. let two = here o.rid o (p ∷ ps) refl in let one = here o.rid p ps e in let most = once o.rid in absurd (omega (arith, two, one, most)) in (
      first,
      risen (o.rid +ℤ pos 1) p ps (by_lt_z o.rid p.rid (λ lt. omega (arith, signed_arith, lt)) (λ ge. absurd (unlike (omega (arith, signed_arith, ge, next)))))
          (rest_in_order by_rid o (p ∷ ps) order) (λ r. fewer r o (p ∷ ps) (once r)),
    )

all_risen : (low : ℤ) (os : List Occurrence) → AllByRecursion (λ o. low ≤ℤ o.rid) os → InOrder os → ((r : ℤ) → count_at r os ≤ 1) → rises low os
unfolding rises
all_risen low [] first order once = tt
all_risen low (o ∷ os) first order once = risen low o os first.0 order once

-- Members.

one_of : (os : List Occurrence) (o : Occurrence) (k : ℕ) → k < length os → slice_index_or os k o ≡ o → is_one o os
unfolding is_one
one_of [] o k l h = absurd (omega (arith, l))
one_of (p ∷ ps) o zero l h = inl h
one_of (p ∷ ps) o (suc k) l h = inr (one_of ps o k (omega (arith, l)) h)

got : (os : List Occurrence) (k : ℕ) (d : Occurrence) → k < length os → slice_get os k ≡ Some (slice_index_or os k d)
got [] k d l = absurd (omega (arith, l))
got (o ∷ os) zero d l = refl
got (o ∷ os) (suc k) d l = got os k d (omega (arith, l))

at_place : (os : List Occurrence) (k : ℕ) (o : Occurrence) → slice_get os k ≡ Some o → slice_index_or os k o ≡ o
at_place [] k o h = cc
at_place (p ∷ ps) zero o h = cc
at_place (p ∷ ps) (suc k) o h = at_place ps k o h

each : {P Q : Occurrence → Type 0} → ((o : Occurrence) → P o → Q o) → (os : List Occurrence) → AllByRecursion P os → AllByRecursion Q os
each f [] h = h
each f (o ∷ os) h = (f o h.0, each f os h.1)

member : (P : Occurrence → Type 0) (os : List Occurrence) (o : Occurrence) → AllByRecursion P os → is_one o os → P o
unfolding is_one
member P [] o h m = absurd m
member P (p ∷ ps) o h m = elim m [ inl e ↦ subst P e h.0 | inr n ↦ member P ps o h.1 n ]

sooner_self : (x : Occurrence) → is_sooner x x ≡ true → ⊥
sooner_self x h = elim (sooner_cases x x h) [ inl lt ↦ omega (arith, signed_arith, lt) | inr e ↦ omega (arith, signed_arith, e.1) ]

shows_at : (tz : TzText) (v t : ℤ) → instant_in tz v ≡ Some t → is_showing v ≡ true
shows_at tz v t e = by_bool (is_showing v) (λ h. h) (λ h. let none = instant-none tz v h in cc)

module _ (s : Series) (rule : TzText) (w : Window) where
  abbrev Meets : Occurrence → Type 0
  Meets o = IsOverlapping s (instant_in rule) w o

  near : (o : Occurrence) → Meets o → IsWithin 400000000000 o.rid
  near o m = let met = has_overlap (instant_in rule) w o m.1 in rid_near s rule o met.period.from m.0 met.span.first

  -- their recurrence ids lie in the years 0 to 9999
  in_years : (o : Occurrence) → Meets o → is_in_years o.rid ≡ true
  in_years o m = elim (kinds s o m.0) [
    | inl own ↦
        let met = has_overlap (instant_in rule) w o m.1 in
        let shown = showing_is o.start (shows_at rule o.start met.period.from met.span.first) in
        let same = own.start in
        rw (is_int_le (negsuc 62167219199) o.rid (omega (arith, signed_arith, shown.0, same)), is_int_le o.rid (pos 253402300799) (omega (arith, signed_arith, shown.1, same))) refl
    | inr put ↦
        let years = and_both (is_in_years put.1.0.rid) (is_span_in_years put.1.0.replaced) (all_at (λ (x : Exception). is_in_years x.rid && is_span_in_years x.replaced) s.exceptions put.0 put.1.0 s.exceptions_in put.1.1.0) in
        ap is_in_years (sym (rid_of put.1.0 o put.1.1.1)) ∙ years.0
  ]

  -- two that overlap the window differ in their recurrence ids
  no_two : (os : List Occurrence) → IsListOf Meets os → (j k : ℕ) (a b : Occurrence) → j < k → slice_get os j ≡ Some a → slice_get os k ≡ Some b → a.rid ≡ b.rid → ⊥
  no_two os list j k a b lt h g e =
      let one = (list.only j a h).0 in
      let other = (list.only k b g).0 in
      let same : a ≡ b = same_Some a b (sym one ∙ ap (occurrence_with s) e ∙ other) in
      sooner_self b (subst (λ x. is_sooner x b ≡ true) same (list.ordered j k a b lt h g))

  pub sorted_are : (xs ys : List Occurrence) → IsListOf Meets xs → IsPermutation xs ys → InOrder ys → ys ≡ occurrences_overlapping s (instant_in rule) w
  unfolding occurrences_overlapping passing_seconds seconds_around
  sorted_are xs ys list moved order =
      let everyone : AllByRecursion Meets ys = recursion_from_All Meets ys (All-permutation Meets xs ys moved (λ k d l. list.only k (slice_index_or xs k d) (got xs k d l))) in
      let once : (r : ℤ) → count_at r ys ≤ 1 = λ r. rw (sum_by-IsPermutation (one_at r) xs ys moved) (at_most_one r xs (no_two xs list)) in
      let low : ℤ = pos 0 -ℤ pos (2 ^ 57) in
      let least : AllByRecursion (λ o. low ≤ℤ o.rid) ys = each (λ o m. let n = near o m in omega (arith, signed_arith, n)) ys everyone in
      listed s (overlaps_window (instant_in rule) w) (2 ^ 58) low (low +ℤ pos (2 ^ 58)) ys refl (all_risen low ys least order once) everyone
      (λ q m. let n = near q (member Meets ys q everyone m) in omega (arith, signed_arith, n))
      (λ q f from to.
      let at = list.all q f in
      let there = Contains-permutation xs ys q moved (at.0, slice_get_within xs at.0 q at.1, at_place xs at.0 q at.1) in
      one_of ys q there.0 there.1 there.2)

  pub sorted_in_years : (xs ys : List Occurrence) → IsListOf Meets xs → IsPermutation xs ys → All (λ o. is_in_years o.rid ≡ true) ys
  sorted_in_years xs ys list moved = All-permutation (λ o. is_in_years o.rid ≡ true) xs ys moved (λ k d l. in_years (slice_index_or xs k d) (list.only k (slice_index_or xs k d) (got xs k d l)))
