-- What the occurrences of a series add to the busy instants.
use Rattle.std.proofs.Common.{◌&&◌, ◌||◌, ◌≡◌, ℕ, suc, ◌+◌, ◌≤◌, ◌⊎◌, inl, inr, Bool, true, refl, sym, ap, ◌∙◌, arith, ℤ, int_lt, List, [], ◌∷◌, length, take, take_all, slice_get, Option, Some}
use Rattle.std.specs.List.{list_any}
use Rattle.std.proofs.lemmas.List.Folds.{list_any_more}
use Rattle.std.proofs.lemmas.Option.{get_or_from_slice_get, slice_get_within}
use Rattle.std.proofs.lemmas.Bool.{or_left, or_right, and_from, or_cases, and_parts}
use Rattle.std.proofs.lemmas.Map.Keys.{any_passes_from_place}
use Rattle.std.proofs.Math.Bool.{or_assoc}
use Rattle.jiff_core.proofs.SignedLemmas.{signed_arith}
use Rattle.jiff_core.specs.Calendar.{IsWithin}
use Rattle.spec_series.specs.declared.occurrence.Occurrence.{Occurrence}
use Rattle.spec_series.specs.declared.series.Series.{Series}
use Rattle.spec_series.specs.Occurrences.{IsOccurrence}
use Rattle.spec_windows.specs.declared.period.Period.{Period}
use Rattle.spec_windows.specs.declared.window.Window.{Window}
use Rattle.spec_windows.specs.BusyPeriods.{lies_in, is_busy, occupies, IsOccupied}
use Rattle.spec_windows.specs.Windows.{keeps_limits, overlaps_window, span_at, IsOverlapping}
use Rattle.occurrence_windows.specs.Listing.{IsListOf}
use Rattle.occurrence_windows.proofs.Overlapping.{AreInstants, showing_near, shows, some_holds}
use Rattle.rule_expand.proofs.Places.{is_late}
use Rattle.availability.proofs.Runs.{covers_is}

-- one more occurrence
pub marks_more : (at : ℤ → Option ℤ) (w : Period) (old next last : List Period) (os : List Occurrence) (k : ℕ) (x : Occurrence) → slice_get os k ≡ Some x
    → ((u : ℤ) → is_busy next u ≡ (is_busy old u || list_any (λ o. lies_in u w && occupies at u o) (take k os)))
    → ((u : ℤ) → is_busy last u ≡ (is_busy next u || (lies_in u w && occupies at u x)))
    → (u : ℤ) → is_busy last u ≡ (is_busy old u || list_any (λ o. lies_in u w && occupies at u o) (take (k + 1) os))
marks_more at w old next last os k x here f g = λ u.
    g u ∙ ap (λ b. b || (lies_in u w && occupies at u x)) (f u)
    ∙ or_assoc (is_busy old u) (list_any (λ o. lies_in u w && occupies at u o) (take k os)) (lies_in u w && occupies at u x)
    ∙ ap (λ o. is_busy old u || (list_any (λ o. lies_in u w && occupies at u o) (take k os) || (lies_in u w && occupies at u o))) (sym (get_or_from_slice_get os k x x here))
    ∙ ap (λ b. is_busy old u || b) (sym (list_any_more (λ o. lies_in u w && occupies at u o) os k x (slice_get_within os k x here)))

any_from : (test : Occurrence → Bool) (os : List Occurrence) → list_any test os ≡ true → (k : ℕ) × ((o : Occurrence) × ((slice_get os k ≡ Some o) × (test o ≡ true)))
any_from test [] h = cc
any_from test (o ∷ os) h = elim (or_cases (test o) (list_any test os) h) [
  | inl a ↦ (0, (o, (refl, a)))
  | inr b ↦ let x = any_from test os b in (suc x.0, x.1)
]

-- what covers an instant of the window overlaps it
pub occupier_overlaps : (at : ℤ → Option ℤ) (w : Period) (u : ℤ) (o : Occurrence) → lies_in u w ≡ true → occupies at u o ≡ true → overlaps_window at (record { after = Some w.from; before = Some w.to }) o ≡ true
unfolding overlaps_window keeps_limits
occupier_overlaps at w u o h k =
    let x = covers_is u w h in
    let z = and_parts o.occupying _ k in
    let m = some_holds (lies_in u) (span_at at o) z.1 in
    let y = covers_is u m.0 m.1.1 in
    rw m.1.0 (and_from (int_lt w.from m.0.to) _ (is_late w.from m.0.to (omega (arith, signed_arith, x.0, y.1))) (is_late m.0.from w.to (omega (arith, signed_arith, x.1, y.0))))

pub marks_all : (series : Series) (at : ℤ → Option ℤ) (w : Period) (old last : List Period) (os : List Occurrence) (n : ℕ) → length os ≤ n
    → IsListOf (IsOverlapping series at (record { after = Some w.from; before = Some w.to })) os
    → ((u : ℤ) → is_busy last u ≡ (is_busy old u || list_any (λ o. lies_in u w && occupies at u o) (take n os)))
    → (u : ℤ) → (is_busy last u ≡ true → ((is_busy old u ≡ true) ⊎ ((lies_in u w ≡ true) × IsOccupied series at u)))
    × (((is_busy old u ≡ true) ⊎ ((lies_in u w ≡ true) × IsOccupied series at u)) → is_busy last u ≡ true)
marks_all series at w old last os n le list f = λ u.
    let whole = rw (take_all n os le) at (f u) in (
      λ h. elim (or_cases (is_busy old u) (list_any (λ o. lies_in u w && occupies at u o) os) (sym whole ∙ h)) [
        | inl a ↦ inl a
        | inr b ↦ let x = any_from (λ o. lies_in u w && occupies at u o) os b in
            let z = and_parts (lies_in u w) (occupies at u x.1.0) x.1.1.1 in
            inr (z.0, (x.1.0, ((list.only x.0 x.1.0 x.1.1.0).0, z.1)))
      ],
      λ h. whole ∙ elim h [
        | inl a ↦ or_left (is_busy old u) (list_any (λ o. lies_in u w && occupies at u o) os) a
        | inr b ↦ let k = list.all b.1.0 (b.1.1.0, occupier_overlaps at w u b.1.0 b.0 b.1.1.1) in
            or_right (is_busy old u) (list_any (λ o. lies_in u w && occupies at u o) os) (any_passes_from_place (λ o. lies_in u w && occupies at u o) os k.0 b.1.0 k.1 (and_from (lies_in u w) (occupies at u b.1.0) b.0 b.1.1.1))
      ],
    )

-- each listed occurrence meets the limits, so it starts in the years 1 to 9998
pub listed_at : (series : Series) (at : ℤ → Option ℤ) (w : Window) (os : List Occurrence) (k : ℕ) (x : Occurrence) → slice_get os k ≡ Some x → AreInstants at → IsListOf (IsOverlapping series at w) os
    → (IsOccurrence series x) × (IsWithin 400000000000 x.start)
listed_at series at w os k x here i list =
    let m = list.only k x here in
    (m.0, showing_near x.start (shows at w x i m.1))
