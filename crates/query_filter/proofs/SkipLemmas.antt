-- Events that a filter skips before the rule of their zone is known.
use Rattle.std.proofs.Common.{◌≡◌, ◌∙◌, ℕ, ◌+ℤ◌, ◌≤ℤ◌, ℤ, pos, inl, inr, List, [], ◌∷◌, length, ◌&&◌, true, false, not, int_lt, Option, Some, None, refl, sym, ap, arith, subst, ◌*◌}
use Rattle.std.specs.Prelude.{◌==◌, unwrap_or, codes}
use Rattle.std.specs.Option.{option_map_or}
use Rattle.std.specs.Str.{bytes_eq}
use Rattle.std.proofs.lemmas.Bool.Decides.{Decides-int_eq, nat_tests}
use Rattle.std.proofs.lemmas.Bool.{eqb-true, not-false, or_parts}
use Rattle.std.proofs.lemmas.Option.{slice_get_within}
use Rattle.jiff_core.proofs.SignedLemmas.{signed_arith}
use Rattle.jiff_tz.specs.PosixText.{TzText}
use Rattle.spec_events.specs.Events.{time_zone_in}
use Rattle.spec_events.specs.Values.{is_showing}
use Rattle.spec_filters.specs.Matches.{matches_by, overlaps_by}
use Rattle.spec_json.proofs.Booleans.{by_bool}
use Rattle.spec_json.specs.Data.{Data}
use Rattle.spec_series.proofs.Occurrences.{kinds}
use Rattle.spec_series.specs.Occurrences.{IsOccurrence, is_day}
use Rattle.spec_series.specs.SeriesLimits.{wall_seconds}
use Rattle.spec_series.specs.declared.occurrence.Occurrence.{Occurrence}
use Rattle.spec_series.specs.declared.rule.Rule.{Rule}
use Rattle.spec_series.specs.declared.series.Series.{Series}
use Rattle.spec_site.specs.TimeZones.{ZoneText}
use Rattle.spec_time.specs.Walls.{day_of_wall, second_of_wall}
use Rattle.spec_windows.specs.Clocks.{instant_in}
use Rattle.spec_windows.specs.Overlaps.{has_overlapping}
use Rattle.spec_windows.specs.Windows.{keeps_limits, overlaps_window}
use Rattle.spec_windows.specs.ZoneRules.{listed_rule, rule_of, rule_of_event, utc_rule}
use Rattle.spec_windows.specs.declared.window.Window.{Window}
use Rattle.occurrence_windows.proofs.Overlapping.{AreInstants, has_overlap}
use Rattle.occurrence_windows.proofs.Passing.{overlapping_is}
use Rattle.occurrence_windows.proofs.Series.{showing_is}
use Rattle.query_filter.proofs.KeptLemmas.{times_missed}
use Rattle.query_filter.specs.InZone.{FilterInZone}
use Rattle.query_filter.specs.KeptTimes.{times_of}
use Rattle.query_filter.specs.Skips.{is_alone, may_match, may_overlap, widest}
use Rattle.query_filter.specs.declared.times.Times.{Times}
use Rattle.rule_expand.proofs.Places.{and_both, is_late, late_is}
use Rattle.rule_expand.proofs.Sets.{both_and, not_true}
use Rattle.zone_instants.proofs.Bounds.{HasNearOffsets, instant_near}
use Rattle.zone_instants.proofs.Offsets.{text_near}
use Rattle.zone_instants.proofs.Readings.{instant-none}

-- The rules of zones have offsets of less than 26 hours.

listed_near : (zones : List ZoneText) (name : List ℕ) (tz : TzText) → listed_rule zones name ≡ Some tz → HasNearOffsets tz
unfolding listed_rule
listed_near [] name tz h = cc
listed_near (z ∷ zs) name tz h = by_bool (bytes_eq z.0 name)
    (λ e. text_near z.1 tz (rw e at h))
    (λ e. listed_near zs name tz (rw e at h))

utc_near : HasNearOffsets utc_rule
utc_near = ((omega (arith, signed_arith), omega (arith, signed_arith)), tt)

zone_near : (zones : List ZoneText) (name : List ℕ) (tz : TzText) → rule_of zones name ≡ Some tz → HasNearOffsets tz
zone_near zones name tz h = by_bool (bytes_eq name (codes "Etc/UTC"))
    (λ e. let same : Some utc_rule ≡ Some tz = rw e at h in let is : utc_rule ≡ tz = cc in subst (λ (z : TzText). HasNearOffsets z) is utc_near)
    (λ e. listed_near zones name tz (rw e at h))

near_instants : (tz : TzText) → HasNearOffsets tz → AreInstants (instant_in tz)
near_instants tz near = record {
  showing = λ w t e. by_bool (is_showing w) (λ h. showing_is w h) (λ h. let x = instant-none tz w h in cc);
  near = λ w t e. instant_near tz w t near e;
}

-- A wider period keeps the limits that a narrower one does.

after_wider : (limit : Option ℤ) (to later : ℤ) → to ≤ℤ later → option_map_or (λ a. int_lt a to) limit true ≡ true → option_map_or (λ a. int_lt a later) limit true ≡ true
after_wider None to later le h = refl
after_wider (Some a) to later le h = let x = late_is a to h in is_late a later (omega (arith, signed_arith, x, le))

before_wider : (limit : Option ℤ) (from earlier : ℤ) → earlier ≤ℤ from → option_map_or (λ b. int_lt from b) limit true ≡ true → option_map_or (λ b. int_lt earlier b) limit true ≡ true
before_wider None from earlier le h = refl
before_wider (Some b) from earlier le h = let x = late_is from b h in is_late earlier b (omega (arith, signed_arith, x, le))

met_widest : (at : ℤ → Option ℤ) (w : Window) (o : Occurrence) → AreInstants at → overlaps_window at w o ≡ true → keeps_limits w (widest o.start (wall_seconds o.length)) ≡ true
unfolding keeps_limits
met_widest at w o i h =
    let m = has_overlap at w o h in
    let begins = i.near o.start m.period.from m.span.first in
    let ends = i.near (o.start +ℤ pos (86400 * o.length.days)) m.span.last m.span.ends in
    let to = m.span.to in
    both_and _ _
    (after_wider w.after m.period.to _ (omega (arith, signed_arith, ends, to)) m.after)
    (before_wider w.before m.period.from _ (omega (arith, signed_arith, begins)) m.before)

-- The one occurrence of a series without rules and exceptions.

at_start : (rs : List Rule) (start w : ℤ) → length rs ≡ 0 → ((second_of_wall w == second_of_wall start) && is_day rs start (day_of_wall w)) ≡ true → w ≡ start
at_start [] start w h r =
    let p = and_both (second_of_wall w == second_of_wall start) _ r in
    let day = (Decides-int_eq (day_of_wall w) (day_of_wall start)).0 p.1 in
    let second : second_of_wall w ≡ second_of_wall start = grind (arith, nat_tests) in
    omega (arith, signed_arith)
at_start (x ∷ rs) start w h r = absurd (omega (arith, h))

alone_at : (s : Series) (o : Occurrence) → is_alone s ≡ true → IsOccurrence s o → (o.start ≡ s.start) × (o.length ≡ s.length)
alone_at s o alone m =
    let parts = and_both (length s.rules == 0) (length s.exceptions == 0) alone in
    elim (kinds s o m) [
      | inl own ↦ (own.start ∙ at_start s.rules s.start o.rid (eqb-true (length s.rules) 0 parts.0) own.rid, own.length)
      | inr put ↦ absurd (omega (arith, slice_get_within s.exceptions put.0 put.1.0 put.1.1.0, eqb-true (length s.exceptions) 0 parts.1))
    ]

alone_missed : (s : Series) (tz : TzText) (w : Window) → HasNearOffsets tz → may_overlap (Some s) w ≡ false → has_overlapping s (instant_in tz) w ≡ false
alone_missed s tz w near h =
    let parts = or_parts (not (is_alone s)) _ h in
    not_true (has_overlapping s (instant_in tz) w) (λ met.
    let o = (overlapping_is s tz w).0 met in
    let at = alone_at s o.0 (not-false (is_alone s) parts.0) o.1.0 in
    let wide = met_widest (instant_in tz) w o.0 (near_instants tz near) o.1.1 in
    let same : keeps_limits w (widest s.start (wall_seconds s.length)) ≡ true = ap (λ x. keeps_limits w (widest x (wall_seconds s.length))) (sym at.0) ∙ ap (λ l. keeps_limits w (widest o.0.start (wall_seconds l))) (sym at.1) ∙ wide in
    let no = parts.1 in
    cc)

missed : (series : Option Series) (rule : Option TzText) (w : Window) → ((tz : TzText) → rule ≡ Some tz → HasNearOffsets tz) → may_overlap series w ≡ false → overlaps_by series rule w ≡ false
missed None rule w near h = refl
missed (Some s) None w near h = refl
missed (Some s) (Some tz) w near h = alone_missed s tz w (near tz refl) h

skipped_by : (f : FilterInZone) (series : Option Series) (times : Option Times) → times_of f.clock f.filter ≡ times → option_map_or (λ t. may_overlap series t.window) times true ≡ false
    → (zones : List ZoneText) (floating : List ℕ) (event : Data) → matches_by f.clock series (rule_of_event zones floating event) f.filter event ≡ false
skipped_by f series None e h zones floating event = cc
skipped_by f series (Some t) e h zones floating event =
    times_missed f.clock series (rule_of_event zones floating event) event f.filter t e
    (missed series (rule_of_event zones floating event) t.window (λ tz r. zone_near zones (unwrap_or (time_zone_in event) floating) tz r) h)

pub skipped : (f : FilterInZone) (series : Option Series) → may_match f series ≡ false
    → (zones : List ZoneText) (floating : List ℕ) (event : Data) → matches_by f.clock series (rule_of_event zones floating event) f.filter event ≡ false
skipped f series h zones floating event = skipped_by f series (times_of f.clock f.filter) refl h zones floating event

-- What is kept of a filter says it.
pub kept_says : (f : FilterInZone) (series : Option Series) (times : Option Times) → times_of f.clock f.filter ≡ times → option_map_or (λ t. may_overlap series t.window) times true ≡ may_match f series
kept_says f series times e = ap (λ o. option_map_or (λ t. may_overlap series t.window) o true) (sym e)
