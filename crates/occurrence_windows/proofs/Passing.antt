-- Occurrences looked for by their recurrence ids.
use Rattle.std.proofs.Common.{◌≡◌, ℤ, pos, Bool, true, false, IsTrue, Some, refl, arith}
use Rattle.std.specs.Prelude.{◌↔◌}
use Rattle.jiff_core.proofs.SignedLemmas.{signed_arith}
use Rattle.jiff_core.specs.Calendar.{IsWithin}
use Rattle.jiff_tz.specs.PosixText.{TzText}
use Rattle.spec_events.specs.Values.{is_showing}
use Rattle.spec_series.proofs.Numbers.{any_around, around_any}
use Rattle.spec_series.proofs.Occurrences.{with_rid}
use Rattle.spec_series.specs.declared.occurrence.Occurrence.{Occurrence}
use Rattle.spec_series.specs.declared.series.Series.{Series}
use Rattle.spec_series.specs.Occurrences.{IsOccurrence, occurrence_with, passes_with}
use Rattle.spec_windows.specs.Clocks.{instant_in}
use Rattle.spec_windows.specs.Overlaps.{has_overlapping, has_passing}
use Rattle.spec_windows.specs.Windows.{HasOverlapping, overlaps_window}
use Rattle.spec_windows.specs.declared.window.Window.{Window}
use Rattle.occurrence_windows.proofs.Overlapping.{IsShowing, has_overlap, showing_near, some_holds}
use Rattle.occurrence_windows.proofs.Series.{rids_near, showing_is}
use Rattle.rule_expand.proofs.Sets.{same_truth}
use Rattle.zone_instants.proofs.Readings.{instant-none}

by_bool : {Q : Type 0} (b : Bool) → (b ≡ true → Q) → (b ≡ false → Q) → Q
by_bool true f g = f refl
by_bool false f g = g refl

-- The search.

-- it finds one exactly where there is one, as far as such have recurrence ids less than 12,000 years from 1970
pub passing_is : (test : Occurrence → Bool) (s : Series) → ((o : Occurrence) → IsOccurrence s o → test o ≡ true → IsWithin 400000000000 o.rid)
    → (has_passing test s ≡ true) ↔ ((o : Occurrence) × (IsOccurrence s o × (test o ≡ true)))
unfolding has_passing
passing_is test s near = (
  λ h.
      let x = any_around (passes_with test s) (pos 0) h in
      let o = some_holds test (occurrence_with s x.0) x.1 in
      (o.0, ((with_rid s x.0 o.0 o.1.0).0, o.1.1)),
  λ o.
      let within = near o.0 o.1.0 o.1.1 in
      around_any (passes_with test s) (pos 0) o.0.rid (rw o.1.0 o.1.1) (omega (arith, signed_arith, within)) (omega (arith, signed_arith, within)),
)

-- Occurrences that have an instant.

shows_at : (tz : TzText) (w t : ℤ) → instant_in tz w ≡ Some t → IsShowing w
shows_at tz w t e = by_bool (is_showing w) (λ h. showing_is w h) (λ h. let no = instant-none tz w h in cc)

pub rid_near : (s : Series) (tz : TzText) (o : Occurrence) (t : ℤ) → IsOccurrence s o → instant_in tz o.start ≡ Some t → IsWithin 400000000000 o.rid
rid_near s tz o t m e = rids_near s o m (showing_near o.start (shows_at tz o.start t e))

pub overlapping_is : (s : Series) (tz : TzText) (w : Window) → (has_overlapping s (instant_in tz) w ≡ true) ↔ HasOverlapping s (instant_in tz) w
overlapping_is s tz w = passing_is (overlaps_window (instant_in tz) w) s (λ o m h. let overlap = has_overlap (instant_in tz) w o h in rid_near s tz o overlap.period.from m overlap.span.first)

-- a test that holds just where there is one
pub overlapping_value : (s : Series) (tz : TzText) (w : Window) (b : Bool) → (IsTrue b ↔ HasOverlapping s (instant_in tz) w) → b ≡ has_overlapping s (instant_in tz) w
overlapping_value s tz w b h = let law = overlapping_is s tz w in same_truth b (has_overlapping s (instant_in tz) w) (λ e. law.1 (h.0 e)) (λ e. h.1 (law.0 e))
