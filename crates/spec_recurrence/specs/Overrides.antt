-- Overrides of single occurrences of an event (RFC 8984 section 4.3.5).
use Rattle.std.specs.Prelude.{ℕ, ℤ, List, [], ◌∷◌, ◌==◌, Bool, true, false, Option, Some, None, Result, Ok, Err, codes, length, is_some, nat_le, option_and_then, option_map, unwrap_or, if◌then◌else◌}
use Rattle.std.specs.List.{list_any}
use Rattle.std.specs.Option.{option_map_or}
use Rattle.spec_events.specs.Events.{bad_event_properties, is_occupying, length_in, start_in}
use Rattle.spec_events.specs.Values.{is_showing}
use Rattle.spec_json.specs.Data.{Data, Pair, null, truth, text, object, field, lookup, members_of, pairs_of}
use Rattle.spec_json.specs.Edit.{with_pair, without}
use Rattle.spec_json.specs.Parts.{all_some, as_object, members_in}
use Rattle.spec_json.specs.Patch.{patched}
use Rattle.spec_json.specs.Pointer.{parts}
use Rattle.spec_recurrence.specs.declared.limits.TheConstants.{MAX_OVERRIDES}
use Rattle.spec_series.specs.declared.exception.Exception.{Exception}
use Rattle.spec_series.specs.declared.exception.Span.{Span}
use Rattle.spec_site.specs.TimeZones.{ZoneText}
use Rattle.spec_time.specs.LocalTimes.{local_in}
use Rattle.property_table.specs.Names.{has_name}

-- The object of an occurrence.

-- an event without its rules and overrides (sections 4.3.3 and 4.3.5)
abbrev pub single : List Pair → List Pair
single event = without (codes "recurrenceOverrides") (without (codes "recurrenceRules") event)

-- what a patch changes: `excluded` says whether there is the occurrence at all (section 4.3.6)
abbrev pub patch_changes : List Pair → List Pair
patch_changes patch = without (codes "excluded") patch

-- an object with these changes, where it starts at the time of a key
abbrev pub changed_at : List ℕ → List Pair → List Pair → Result Data (List ℕ)
changed_at key changes alone = patched (object (members_of (with_pair (codes "start") (text key) alone))) changes

-- The object of the occurrence with this recurrence id: the event without rules and overrides, which starts at the recurrence id,
-- and then the patch; or else the first key of the patch that fails (RFC 8620 section 5.3).
abbrev pub occurrence_in : List Pair → List ℕ → List Pair → Result Data (List ℕ)
occurrence_in event key patch = changed_at key (patch_changes patch) (single event)

-- Which overrides an event may have.

-- What no pointer of an override may begin with: the first nine by section 4.3.5, the others as they belong to the whole event.
abbrev pub fixed_properties : List (List ℕ)
fixed_properties =
    codes "@type" ∷ codes "excludedRecurrenceRules" ∷ codes "method" ∷ codes "prodId" ∷ codes "recurrenceId"
    ∷ codes "recurrenceOverrides" ∷ codes "recurrenceRules" ∷ codes "timeZones" ∷ codes "uid"
    ∷ codes "baseEventId" ∷ codes "calendarIds" ∷ codes "created" ∷ codes "id" ∷ codes "timeZone" ∷ codes "updated" ∷ []

abbrev pub first_is_fixed : List (List ℕ) → Bool
first_is_fixed [] = false
first_is_fixed (p ∷ ps) = has_name fixed_properties p

-- a change of what is fixed
abbrev pub touches_fixed : Pair → Bool
touches_fixed p = option_map_or first_is_fixed (parts p.0) false

-- the wall second of a recurrence id, a LocalDateTime in the years 1 to 9998
abbrev pub recurrence_id_in : List ℕ → Option ℤ
recurrence_id_in key = option_and_then (λ w. if is_showing w then Some w else None) (local_in key)

-- whether a patch takes the occurrence out, none where `excluded` is neither true, false nor null (section 4.3.6)
abbrev pub is_excluded : Option Data → Option Bool
is_excluded None = Some false
is_excluded (Some null) = Some false
is_excluded (Some (truth b)) = Some b
is_excluded _ = None

-- when an event is, and whether it takes up the time
abbrev pub span_in : Data → Span
span_in d = record { start = start_in d; length = length_in d; occupying = is_occupying d }

-- the same, none where the object isn't a valid event
abbrev pub valid_span : List ZoneText → Data → Option Span
valid_span zones d = if length (bad_event_properties zones d) == 0 then Some (span_in d) else None

abbrev pub span_of : List ZoneText → Result Data (List ℕ) → Option Span
span_of zones (Ok d) = valid_span zones d
span_of zones (Err key) = None

-- what changes make of the occurrence, none where they touch what is fixed, fail, or make an object that isn't a valid event
abbrev pub changed_span : List ZoneText → List ℕ → List Pair → List Pair → Option Span
changed_span zones key changes alone = if list_any touches_fixed changes then None else span_of zones (changed_at key changes alone)

-- What stands in the place of the occurrence: nothing where it is excluded, and else what the patch makes of it. None where the
-- event may not have the override.
abbrev pub replaced_by : List ZoneText → List ℕ → List Pair → List Pair → Option Bool → Option (Option Span)
replaced_by zones key patch alone None = None
replaced_by zones key patch alone (Some true) = Some None
replaced_by zones key patch alone (Some false) = option_map Some (changed_span zones key (patch_changes patch) alone)

abbrev pub exception_at : List ZoneText → List ℕ → List Pair → List Pair → ℤ → Option Exception
exception_at zones key patch alone w =
    option_map (λ span. record { rid = w; replaced = span }) (replaced_by zones key patch alone (is_excluded (lookup (codes "excluded") patch)))

abbrev pub exception_of : List ZoneText → List Pair → List ℕ → List Pair → Option Exception
exception_of zones alone key patch = option_and_then (exception_at zones key patch alone) (recurrence_id_in key)

-- the exception that an override comes to, none where an event may not have it; `alone` is the event without rules and overrides
unfoldable pub exception_in : List ZoneText → List Pair → Pair → Option Exception
exception_in zones alone p = option_and_then (exception_of zones alone p.0) (as_object p.1)

-- All overrides of an event.

abbrev pub few_members : List Pair → Option (List Pair)
few_members ps = if nat_le (length ps) MAX_OVERRIDES then Some ps else None

-- null stands for none
abbrev pub overrides_of : Data → Option (List Pair)
overrides_of null = Some []
overrides_of (object ms) = few_members (pairs_of ms)
overrides_of _ = None

-- the overrides of an event, in byte order; none where they are more than 128, or no object
abbrev pub overrides_in : Data → Option (List Pair)
overrides_in d = overrides_of (unwrap_or (field (codes "recurrenceOverrides") d) null)

-- the first key of an override that the event may not have
abbrev pub first_refused : List ZoneText → List Pair → List Pair → Option (List ℕ)
first_refused zones alone [] = None
first_refused zones alone (p ∷ ps) = if is_some (exception_in zones alone p) then first_refused zones alone ps else Some p.0

-- the exceptions that the overrides of an event come to, none where it may not have them all
abbrev pub exceptions_in : List ZoneText → Data → Option (List Exception)
exceptions_in zones d = option_and_then (all_some (exception_in zones (single (members_in d)))) (overrides_in d)

-- the first override of the event, in byte order of their keys, that it may not have
abbrev pub refused_in : List ZoneText → Data → Option (List ℕ)
refused_in zones d = option_and_then (first_refused zones (single (members_in d))) (overrides_in d)
