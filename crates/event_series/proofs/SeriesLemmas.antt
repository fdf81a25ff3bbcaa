-- The series of an event is the one that tells what the event does.
use Rattle.std.proofs.Common.{◌≡◌, ◌==◌, ℕ, List, [], ◌∷◌, Bool, true, false, Option, Some, None, length, option_and_then, if◌then◌else◌, arith, refl, sym, ap, ◌∙◌}
use Rattle.std.proofs.lemmas.Bool.Decides.{nat_tests}
use Rattle.std.proofs.lemmas.Option.{same_Some}
use Rattle.event_series.specs.EventSeries.{IsSeriesOf}
use Rattle.spec_json.specs.Data.{Data}
use Rattle.spec_recurrence.proofs.SeriesLemmas.{series_back}
use Rattle.spec_recurrence.specs.Overrides.{exceptions_in}
use Rattle.spec_recurrence.specs.Recurrence.{bad_properties_of_event}
use Rattle.spec_recurrence.specs.SeriesOf.{SeriesParts, event_parts, is_series, limits_of_series, series_by, series_by_parts, series_in, series_parts, series_where, valid_series}
use Rattle.spec_series.specs.declared.exception.Exception.{Exception}
use Rattle.spec_series.specs.declared.series.Series.{Series}
use Rattle.spec_site.specs.TimeZones.{ZoneText}

no_names : (names : List (List ℕ)) → (length names == 0) ≡ true → names ≡ []
no_names [] h = refl
no_names (n ∷ ns) h = absurd (grind (arith, nat_tests))

same_parts : (zones : List ZoneText) (d : Data) (s : Series) → IsSeriesOf zones d s → event_parts d s.exceptions ≡ series_parts s
same_parts zones d s of = rw (sym of.rules, sym of.start, sym of.length, sym of.occupying) refl

valid_back : (zones : List ZoneText) (d : Data) (s : Series) → IsSeriesOf zones d s → valid_series zones d ≡ Some s
valid_back zones d s of = rw of.exceptions (ap series_by_parts (same_parts zones d s of) ∙ series_back s)

pub one_series : (zones : List ZoneText) (d : Data) (s : Series) → bad_properties_of_event zones d ≡ [] → IsSeriesOf zones d s → series_in zones d ≡ Some s
unfolding series_in
one_series zones d s none of = rw none (valid_back zones d s of)

none_by : (names : List (List ℕ)) (o : Option Series) (is : Bool) → (length names == 0) ≡ is → (names ≡ [] → ⊥) → (if is then o else None) ≡ None
none_by names o true e bad = absurd (bad (no_names names e))
none_by names o false e bad = refl

pub no_series : (zones : List ZoneText) (d : Data) → (bad_properties_of_event zones d ≡ [] → ⊥) → series_in zones d ≡ None
unfolding series_in
no_series zones d bad = none_by (bad_properties_of_event zones d) (valid_series zones d) (length (bad_properties_of_event zones d) == 0) refl bad

-- What an event has a series of.

no_some : (s : Series) → None ≡ Some s → ⊥
no_some s h = cc

where_is : (p : SeriesParts) (s : Series) (b : Bool) (fits : is_series p ≡ b) → series_where p b fits ≡ Some s → series_parts s ≡ p
where_is p s false fits h = absurd (no_some s h)
where_is p s true fits h = let same : series_by p (limits_of_series p fits) ≡ s = same_Some _ _ h in sym (ap series_parts same)

by_parts : (p : SeriesParts) (s : Series) → series_by_parts p ≡ Some s → series_parts s ≡ p
unfolding series_by_parts
by_parts p s h = where_is p s (is_series p) refl h

parts_by : (zones : List ZoneText) (d : Data) (s : Series) (found : Option (List Exception)) → exceptions_in zones d ≡ found
    → option_and_then (λ xs. series_by_parts (event_parts d xs)) found ≡ Some s → IsSeriesOf zones d s
parts_by zones d s None e h = absurd (no_some s h)
parts_by zones d s (Some xs) e h =
    let same = by_parts (event_parts d xs) s h in
    record {
      start = ap (λ p. p.start) same;
      length = ap (λ p. p.length) same;
      occupying = ap (λ p. p.occupying) same;
      rules = ap (λ p. p.rules) same;
      exceptions = e ∙ ap Some (sym (ap (λ p. p.exceptions) same));
    }

record Has (zones : List ZoneText) (d : Data) (s : Series) : Type 0 where
  valid : bad_properties_of_event zones d ≡ []
  series : valid_series zones d ≡ Some s

has_by : (zones : List ZoneText) (d : Data) (s : Series) (is : Bool) → (length (bad_properties_of_event zones d) == 0) ≡ is
    → (if is then valid_series zones d else None) ≡ Some s → Has zones d s
has_by zones d s true e h = record { valid = no_names (bad_properties_of_event zones d) e; series = h }
has_by zones d s false e h = absurd (no_some s h)

has : (zones : List ZoneText) (d : Data) (s : Series) → series_in zones d ≡ Some s → Has zones d s
unfolding series_in
has zones d s h = has_by zones d s (length (bad_properties_of_event zones d) == 0) refl h

pub series_parts_of : (zones : List ZoneText) (d : Data) (s : Series) → series_in zones d ≡ Some s → IsSeriesOf zones d s
series_parts_of zones d s h = parts_by zones d s (exceptions_in zones d) refl (has zones d s h).series

pub series_is_valid : (zones : List ZoneText) (d : Data) (s : Series) → series_in zones d ≡ Some s → bad_properties_of_event zones d ≡ []
series_is_valid zones d s h = (has zones d s h).valid
