-- What an event may have where it may recur, and the occurrences that a client may name (RFC 8984 section 4.3).
use Rattle.std.specs.Prelude.{ℕ, ℤ, List, ◌∷◌, [], Bool, false, ◌&&◌, ◌==◌, not, Option, Some, None, Result, Ok, Err, codes, is_some, option_and_then, unwrap_or, if◌then◌else◌}
use Rattle.spec_events.specs.Events.{event_table, has_recurrence, start_in}
use Rattle.spec_events.specs.Values.{is_shallow}
use Rattle.spec_history.specs.ObjectId.{id_text}
use Rattle.spec_history.specs.declared.entry.Kind.TheVariants.{Event}
use Rattle.spec_json.specs.Data.{Data, Pair, lookup, text}
use Rattle.spec_json.specs.Edit.{with_pair}
use Rattle.spec_json.specs.Parts.{as_object, members_in}
use Rattle.spec_recurrence.specs.OccurrenceIds.{occurrence_id_text}
use Rattle.spec_recurrence.specs.Overrides.{exceptions_in, is_excluded, occurrence_in, overrides_in}
use Rattle.spec_recurrence.specs.RulesOf.{rules_of_event}
use Rattle.spec_series.specs.Occurrences.{is_day}
use Rattle.spec_series.specs.RuleObjects.{rules_in}
use Rattle.spec_site.specs.TimeZones.{ZoneText}
use Rattle.spec_time.specs.LocalTimes.{local_text}
use Rattle.spec_time.specs.Walls.{day_of_wall, second_of_wall}
use Rattle.property_table.specs.Table.{Table, failing_of, optional}

-- The properties of an event, with its rules and overrides. An event by itself, without both, is what `event_table` says.

-- rules of a series that starts with the event
abbrev pub are_rules : Data → Data → Bool
are_rules event rules = is_some (rules_in (start_in event) rules)

-- overrides that the event may have
abbrev pub are_overrides : List ZoneText → Data → Data → Bool
are_overrides zones event overrides = is_shallow overrides && is_some (exceptions_in zones event)

unfoldable pub recurring_event_table : List ZoneText → Data → Table
recurring_event_table zones event = record {
  rows =
      (codes "recurrenceRules", optional (are_rules event))
      ∷ (codes "recurrenceOverrides", optional (are_overrides zones event))
      ∷ (event_table zones).rows;
  other = (event_table zones).other;
}

-- the names of all properties of an object that an event may not have so, in byte order
abbrev pub bad_properties_of_event : List ZoneText → Data → List (List ℕ)
bad_properties_of_event zones d = failing_of (recurring_event_table zones d) d

-- The occurrences of an event that has rules or overrides.

-- the override of a recurrence id, which is the LocalDateTime of its key
abbrev pub override_at : List ℕ → Data → Option (List Pair)
override_at key d = option_and_then as_object (option_and_then (lookup key) (overrides_in d))

-- the rules give an occurrence that starts at this wall second; without rules it is the event's own start
abbrev pub is_given_by_rules : Data → ℤ → Bool
is_given_by_rules d w = (second_of_wall w == second_of_wall (start_in d)) && is_day (rules_of_event d) (start_in d) (day_of_wall w)

-- an override says whether there is the occurrence, whatever the rules give
abbrev pub is_there : Option (List Pair) → Bool → Bool
is_there None given_by_rules = given_by_rules
is_there (Some patch) given_by_rules = not (unwrap_or (is_excluded (lookup (codes "excluded") patch)) false)

-- the event has an occurrence of its own id with this recurrence id, whose LocalDateTime is the key
abbrev pub has_occurrence_at : List ℕ → Data → ℤ → Bool
has_occurrence_at key d w = has_recurrence d && is_there (override_at key d) (is_given_by_rules d w)

abbrev pub has_occurrence : Data → ℤ → Bool
has_occurrence d w = has_occurrence_at (local_text w) d w

-- what a client sees of an occurrence beside its own object (draft JMAP for Calendars): its synthetic id, its recurrence id and its event
abbrev pub with_ids : List ℕ → List ℕ → List ℕ → List Pair → List Pair
with_ids id key event ps = with_pair (codes "baseEventId") (text event) (with_pair (codes "recurrenceId") (text key) (with_pair (codes "id") (text id) ps))

abbrev pub seen_as : List ℕ → List ℕ → List ℕ → Result Data (List ℕ) → Option (List Pair)
seen_as id key event (Ok d) = Some (with_ids id key event (members_in d))
seen_as id key event (Err pointer) = None

-- the object of an occurrence that there is, as a client sees it
abbrev pub occurrence_seen : List ℕ → List ℕ → List ℕ → Data → Option (List Pair)
occurrence_seen id key event d = seen_as id key event (occurrence_in (members_in d) key (unwrap_or (override_at key d) []))

abbrev pub occurrence_at : List ℕ → List ℕ → List ℕ → Data → ℤ → Option (List Pair)
occurrence_at id key event d w = if has_occurrence_at key d w then occurrence_seen id key event d else None

-- the occurrence of event n with this recurrence id, as a client sees it
abbrev pub occurrence_members : ℕ → ℤ → Data → Option (List Pair)
occurrence_members n w d = occurrence_at (occurrence_id_text n w) (local_text w) (id_text Event n) d w
