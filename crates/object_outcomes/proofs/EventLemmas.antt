-- What comes of storing an event, and of destroying an object.
use Rattle.std.proofs.Common.{◌≡◌, ℕ, List, [], Bool, false, Option, Some, None, codes, ap, ap₂, ◌∙◌}
use Rattle.cal_model.specs.EventObject.{has_other_uid, names_missing_calendar}
use Rattle.cal_model.specs.Fits.{IsObjectFit}
use Rattle.cal_model.specs.Operations.{after_tests, bad_of_booking, bad_of_event, is_in_use, put, stored_event_outcome, within_quota}
use Rattle.cal_model.specs.declared.outcome.Outcome.TheVariants.{Refused}
use Rattle.cal_model.specs.declared.set_error.SetError.TheVariants.{InvalidProperties}
use Rattle.spec_history.specs.declared.entry.Change.{Change}
use Rattle.spec_history.specs.declared.entry.Kind.{Kind}
use Rattle.spec_history.specs.declared.entry.Kind.TheVariants.{Calendar, Event}
use Rattle.spec_json.specs.Data.{Data, Pair, members_of, object}
use Rattle.spec_json.specs.declared.tree.Tree.{Tree}
use Rattle.spec_recurrence.specs.Recurrence.{bad_properties_of_event}
use Rattle.spec_recurrence.specs.SeriesOf.{series_in}
use Rattle.spec_series.specs.declared.series.Series.{Series}
use Rattle.spec_bookings.specs.BookingRules.{has_long_override, is_long_booking}
use Rattle.spec_bookings.specs.BookedResources.{clash_of_event, has_full_resource}
use Rattle.spec_site.specs.TimeZones.{ZoneText}
use Rattle.object_outcomes.specs.Judging.{IsStorable, names_with_own}
use Rattle.object_outcomes.proofs.NameLemmas.{none_named, refused_names}

-- an event of which no property is bad
record IsGood (zones : List ZoneText) (cs : List Change) (d : Data) : Type 0 where
  calendars : names_missing_calendar cs d ≡ false
  overrides : has_long_override zones cs d ≡ false
  length : is_long_booking cs d ≡ false
  valid : bad_properties_of_event zones d ≡ []

good_event : (zones : List ZoneText) (cs : List Change) (before : Option Tree) (names_id : Bool) (d : Data) → bad_of_event zones cs before names_id d ≡ [] → IsGood zones cs d
good_event zones cs before names_id d none =
    let first = none_named names_id (codes "id") _ none in
    let second = none_named (has_other_uid before d) (codes "uid") _ first.1 in
    let third = none_named (names_missing_calendar cs d) (codes "calendarIds") (bad_of_booking zones cs d (bad_properties_of_event zones d)) second.1 in
    let fourth = none_named (has_long_override zones cs d) (codes "recurrenceOverrides") _ third.1 in
    let fifth = none_named (is_long_booking cs d) (codes "duration") _ fourth.1 in
    let sixth = none_named _ (codes "timeZone") (bad_properties_of_event zones d) fifth.1 in
    record { calendars = third.0; overrides = fourth.0; length = fifth.0; valid = sixth.1 }

-- and it may be stored, if there is room
pub storable : (zones : List ZoneText) (cs : List Change) (before : Option Tree) (names_id : Bool) (d : Data) (s : Series) → series_in zones d ≡ Some s → bad_of_event zones cs before names_id d ≡ []
    → IsStorable zones cs d s
storable zones cs before names_id d s valid none =
    let good = good_event zones cs before names_id d none in record { valid = valid; calendars = good.calendars; length = good.length; overrides = good.overrides }

-- the names that are told, where these are those of the event's own properties
pub all_names : (zones : List ZoneText) (cs : List Change) (before : Option Tree) (names_id is_long : Bool) (d : Data) (own names : List (List ℕ)) → own ≡ bad_properties_of_event zones d
    → is_long ≡ has_long_override zones cs d → names ≡ names_with_own cs before names_id is_long d own → names ≡ bad_of_event zones cs before names_id d
all_names zones cs before names_id is_long d own names is long told = told ∙ ap₂ (λ b ns. names_with_own cs before names_id b d ns) long is

-- where some of its own properties are bad, some names are told
pub some_bad : (zones : List ZoneText) (cs : List Change) (before : Option Tree) (names_id : Bool) (d : Data) → (bad_properties_of_event zones d ≡ [] → ⊥) → bad_of_event zones cs before names_id d ≡ [] → ⊥
some_bad zones cs before names_id d bad none = bad (good_event zones cs before names_id d none).valid

-- an event with bad names is refused for them
pub bad_event : (zones : List ZoneText) (cs : List Change) (n : ℕ) (before : Option Tree) (names_id : Bool) (ps : List Pair) (names : List (List ℕ))
    → names ≡ bad_of_event zones cs before names_id (object (members_of ps)) → (names ≡ [] → ⊥) → Refused (InvalidProperties names) ≡ stored_event_outcome zones cs n before names_id ps
bad_event zones cs n before names_id ps names is some =
    let d = object (members_of ps) in
    refused_names cs (has_full_resource zones cs n d) (clash_of_event zones cs n d) (put Event n ps) names some
    ∙ ap (after_tests cs (has_full_resource zones cs n d) (clash_of_event zones cs n d) (put Event n ps)) is

-- one without bad names is stored, if there is room and it doesn't clash
pub stored_event : (zones : List ZoneText) (cs : List Change) (n : ℕ) (before : Option Tree) (names_id : Bool) (ps : List Pair) → [] ≡ bad_of_event zones cs before names_id (object (members_of ps))
    → within_quota cs (has_full_resource zones cs n (object (members_of ps))) (clash_of_event zones cs n (object (members_of ps))) (put Event n ps)
    ≡ stored_event_outcome zones cs n before names_id ps
stored_event zones cs n before names_id ps is =
    let d = object (members_of ps) in
    ap (after_tests cs (has_full_resource zones cs n d) (clash_of_event zones cs n d) (put Event n ps)) is

-- an object that isn't in use may be removed
pub removal_fits : (zones : List ZoneText) (cs : List Change) (kind : Kind) (n : ℕ) → is_in_use cs kind n ≡ false → IsObjectFit zones cs kind n None
removal_fits zones cs Calendar n none = none
removal_fits zones cs Event n none = tt
