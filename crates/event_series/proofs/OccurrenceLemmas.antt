-- The occurrences of a series are those that its event has.
use Rattle.std.proofs.Common.{◌≡◌, ◌==◌, ◌&&◌, ◌↔◌, ℕ, zero, suc, ℤ, inl, inr, List, [], ◌∷◌, Bool, true, false, not, Option, Some, None, option_and_then, slice_get, if◌then◌else◌, refl, sym, ap, ◌∙◌}
use Rattle.std.proofs.lemmas.Bool.Decides.{Decides-int_eq}
use Rattle.std.proofs.lemmas.Option.{same_Some}
use Rattle.std.specs.Ordering.{int_eq}
use Rattle.std.specs.Prelude.{is_some, option_map}
use Rattle.spec_events.specs.Events.{has_recurrence, start_in}
use Rattle.spec_json.proofs.KeyOrder.{both}
use Rattle.spec_json.specs.Data.{Data, Pair, lookup}
use Rattle.spec_json.specs.Parts.{all_some, as_object, members_in}
use Rattle.spec_recurrence.specs.Overrides.{exception_in, overrides_in, single}
use Rattle.spec_recurrence.specs.Recurrence.{has_occurrence, is_given_by_rules, is_there, override_at}
use Rattle.spec_series.specs.Occurrences.{exception_with, is_day, is_rid, occurrence_by, occurrence_with}
use Rattle.spec_series.specs.Given.{replacement}
use Rattle.spec_series.specs.declared.exception.Exception.{Exception}
use Rattle.spec_series.specs.declared.exception.Span.{Span}
use Rattle.spec_series.specs.declared.occurrence.Occurrence.{Occurrence}
use Rattle.spec_series.specs.declared.series.Series.{Series}
use Rattle.spec_site.specs.TimeZones.{ZoneText}
use Rattle.spec_time.specs.LocalTimes.{local_text}
use Rattle.spec_time.specs.Walls.{day_of_wall, is_in_years, second_of_wall}
use Rattle.event_series.specs.EventSeries.{IsSeriesOf}
use Rattle.event_series.proofs.ExceptionLemmas.{overrides_agree, replaced_at, takes_place}

-- There is an occurrence where one takes place.

by_bool : {Q : Type 0} (b : Bool) → (b ≡ true → Q) → (b ≡ false → Q) → Q
by_bool true f g = f refl
by_bool false f g = g refl

replaced_is : (xs : List Exception) (w : ℤ) → replaced_at xs w ≡ option_map (λ x. x.replaced) (exception_with xs w)
replaced_is [] w = refl
replaced_is (x ∷ xs) w = by_bool (int_eq x.rid w) (λ e. rw e refl) (λ e. rw e (replaced_is xs w))

abbrev has_one : Series → ℤ → Bool
has_one s w = takes_place (replaced_at s.exceptions w) (is_rid s w)

replaced_takes_place : (w : ℤ) (t : Option Span) (given : Bool) → takes_place (Some t) given ≡ is_some (option_map (replacement w) t)
replaced_takes_place w None given = refl
replaced_takes_place w (Some t) given = refl

takes_place_by : (s : Series) (w : ℤ) (o : Option Exception) → takes_place (option_map (λ x. x.replaced) o) (is_rid s w) ≡ is_some (occurrence_by s w o)
takes_place_by s w None = by_bool (is_rid s w) (λ e. rw e refl) (λ e. rw e refl)
takes_place_by s w (Some x) = replaced_takes_place w x.replaced (is_rid s w)

one_is : (s : Series) (w : ℤ) → has_one s w ≡ is_some (occurrence_with s w)
unfolding occurrence_with
one_is s w = ap (λ r. takes_place r (is_rid s w)) (replaced_is s.exceptions w) ∙ takes_place_by s w (exception_with s.exceptions w)

-- So has the event.

given_is : (zones : List ZoneText) (d : Data) (s : Series) (w : ℤ) → IsSeriesOf zones d s → is_given_by_rules d w ≡ is_rid s w
given_is zones d s w h =
    ap (λ rules. (second_of_wall w == second_of_wall (start_in d)) && is_day rules (start_in d) (day_of_wall w)) (sym h.rules)
    ∙ ap (λ start. (second_of_wall w == second_of_wall start) && is_day s.rules start (day_of_wall w)) (sym h.start)

pub agrees_by : (zones : List ZoneText) (d : Data) (xs : List Exception) (w : ℤ) (given : Bool) → is_in_years w ≡ true
    → (found : Option (List Pair)) → overrides_in d ≡ found → option_and_then (all_some (exception_in zones (single (members_in d)))) found ≡ Some xs
    → is_there (option_and_then as_object (option_and_then (lookup (local_text w)) found)) given ≡ takes_place (replaced_at xs w) given
agrees_by zones d xs w given years None e h = cc
agrees_by zones d xs w given years (Some ps) e h = overrides_agree zones (single (members_in d)) ps xs w given years h

event_has_one : (zones : List ZoneText) (d : Data) (s : Series) (w : ℤ) → IsSeriesOf zones d s → has_recurrence d ≡ true → is_in_years w ≡ true → has_occurrence d w ≡ has_one s w
event_has_one zones d s w h recurs years =
    ap (λ b. b && is_there (override_at (local_text w) d) (is_given_by_rules d w)) recurs
    ∙ ap (is_there (override_at (local_text w) d)) (given_is zones d s w h)
    ∙ agrees_by zones d s.exceptions w (is_rid s w) years (overrides_in d) refl h.exceptions

pub has_occurrence_of : (zones : List ZoneText) (d : Data) (s : Series) (w : ℤ) → IsSeriesOf zones d s → has_recurrence d ≡ true → is_in_years w ≡ true → has_occurrence d w ≡ is_some (occurrence_with s w)
has_occurrence_of zones d s w h recurs years = event_has_one zones d s w h recurs years ∙ one_is s w
