-- Events (RFC 8984, draft JMAP for Calendars): what may stand in an object, and what it means.
use Rattle.std.specs.Prelude.{ℕ, ℤ, pos, List, [], ◌∷◌, ◌++◌, ◌&&◌, ◌||◌, ◌==◌, Bool, false, not, Option, Some, None, codes, length, is_some, nat_le, option_and_then, unwrap_or}
use Rattle.std.specs.List.{list_all, list_any}
use Rattle.std.specs.Option.{option_map_or}
use Rattle.spec_core.specs.Names.{is_name}
use Rattle.spec_events.specs.Participants.{ParticipantProperties, are_participants, people_in}
use Rattle.spec_events.specs.Values.{is_empty_list, is_empty_object, is_false, is_object_that, is_one_of, is_shallow, is_short_duration, is_start, is_true}
use Rattle.spec_events.specs.declared.limits.TheConstants.{MAX_CALENDARS}
use Rattle.spec_history.specs.ObjectId.{object_number}
use Rattle.spec_history.specs.declared.entry.Kind.TheVariants.{Calendar}
use Rattle.spec_json.specs.Data.{Data, Pair, field, null}
use Rattle.spec_json.specs.Parts.{is_null, object_at, some_of, text_at}
use Rattle.spec_site.specs.TimeZones.{ZoneText, has_zone}
use Rattle.spec_time.specs.Durations.{duration_in, length_of}
use Rattle.spec_time.specs.LocalTimes.{local_in}
use Rattle.spec_time.specs.declared.length.Length.{Length}
use Rattle.property_table.specs.Table.{Table, Test, failing_of, never, optional, required}
use Rattle.property_table.specs.Values.{is_text, is_text_that}

-- the id of a calendar, with the value true
abbrev pub is_calendar_member : Pair → Bool
is_calendar_member p = is_some (object_number Calendar p.0) && is_true p.1

-- the calendars of an event, 1 to 8
abbrev pub are_calendar_ids : List Pair → Bool
are_calendar_ids ps = (nat_le 1 (length ps) && nat_le (length ps) MAX_CALENDARS) && list_all is_calendar_member ps

abbrev pub is_status : Data → Bool
is_status d = is_one_of (codes "confirmed" ∷ codes "cancelled" ∷ codes "tentative" ∷ []) d

abbrev pub is_free_busy_status : Data → Bool
is_free_busy_status d = is_one_of (codes "free" ∷ codes "busy" ∷ []) d

-- a property of any other name is kept, whatever its value
abbrev pub other_property : List ℕ → Test
other_property name = optional (λ d. is_name name && is_shallow d)

-- An event has these properties and any others: `@type`, `uid` (RFC 8984 sections 4.1.1 and 4.1.2), `title`, `description`
-- (4.2.1 and 4.2.2), `recurrenceId`, `excludedRecurrenceRules`, `excluded` (4.3.1, 4.3.4 and 4.3.6), `freeBusyStatus`, `participants`
-- (4.4.2 and 4.4.6), `timeZone` (4.7.1), `start`, `duration`, `status` (5.1.1 to 5.1.3), and `calendarIds` and `baseEventId` of the draft.
-- The rules of recurrence and the overrides are not looked at here, and stand among the others.
unfoldable pub event_table : List ZoneText → Table
event_table zones = record {
  rows =
      (codes "@type", optional (is_one_of (codes "Event" ∷ [])))
      ∷ (codes "uid", required (is_text_that is_name))
      ∷ (codes "calendarIds", required (is_object_that are_calendar_ids))
      ∷ (codes "start", required (is_text_that is_start))
      ∷ (codes "duration", optional (is_text_that is_short_duration))
      ∷ (codes "timeZone", optional (is_text_that (has_zone zones)))
      ∷ (codes "status", optional is_status)
      ∷ (codes "freeBusyStatus", optional is_free_busy_status)
      ∷ (codes "title", optional is_text)
      ∷ (codes "description", optional is_text)
      ∷ (codes "participants", optional (λ d. is_object_that are_participants d && is_shallow d))
      ∷ (codes "excluded", optional is_false)
      ∷ (codes "excludedRecurrenceRules", optional is_empty_list)
      ∷ (codes "recurrenceId", never)
      ∷ (codes "baseEventId", never)
      ∷ [];
  other = other_property;
}

-- the names of all properties of an object that an event may not have so, in byte order
abbrev pub bad_event_properties : List ZoneText → Data → List (List ℕ)
bad_event_properties zones d = failing_of (event_table zones) d

-- Recurrence (RFC 8984 sections 4.3.3 and 4.3.5).

-- a value is there that isn't null and isn't an empty one
abbrev pub is_more_than : (Data → Bool) → Option Data → Bool
is_more_than is_empty None = false
is_more_than is_empty (Some d) = not (is_null d) && not (is_empty d)

-- the object has rules of recurrence or overrides
abbrev pub has_recurrence : Data → Bool
has_recurrence d = is_more_than is_empty_list (field (codes "recurrenceRules") d) || is_more_than is_empty_object (field (codes "recurrenceOverrides") d)

-- What an object without bad properties means, by the defaults of what it leaves out.

-- the wall second at which it starts
abbrev pub start_in : Data → ℤ
start_in d = unwrap_or (option_and_then local_in (text_at (codes "start") d)) (pos 0)

-- how long it lasts: `PT0S` where nothing is said
abbrev pub length_in : Data → Length
length_in d = unwrap_or (option_and_then duration_in (text_at (codes "duration") d)) (length_of 0 0)

-- the name of its zone, none where it is floating
abbrev pub time_zone_in : Data → Option (List ℕ)
time_zone_in d = text_at (codes "timeZone") d

-- the value at a key is this word
abbrev pub has_word : List ℕ → List ℕ → Data → Bool
has_word key word d = option_map_or (is_one_of (word ∷ [])) (field key d) false

-- it takes up the time: it isn't cancelled, and isn't marked as free
abbrev pub is_occupying : Data → Bool
is_occupying d = not (has_word (codes "status") (codes "cancelled") d) && not (has_word (codes "freeBusyStatus") (codes "free") d)

-- the numbers of the calendars whose ids are keys among these
abbrev pub calendars_among : List Pair → List ℕ
calendars_among [] = []
calendars_among (p ∷ ps) = some_of (object_number Calendar p.0) ++ calendars_among ps

-- the numbers of its calendars, in byte order of their ids
abbrev pub calendars_of : Data → List ℕ
calendars_of d = calendars_among (unwrap_or (object_at (codes "calendarIds") d) [])

-- the calendar of this number is one of them
abbrev pub names_calendar : ℕ → Data → Bool
names_calendar number d = list_any (λ n. n == number) (calendars_of d)

-- its participants, in byte order of their Ids
abbrev pub participants_of : Data → List ParticipantProperties
participants_of d = people_in (unwrap_or (field (codes "participants") d) null)

-- an event, as far as it says when and whose it is
pub record EventProperties : Type 0 where
  pub start : ℤ
  pub length : Length
  pub time_zone : Option (List ℕ)
  pub is_occupying : Bool
  pub calendars : List ℕ
  pub people : List ParticipantProperties

abbrev pub event_in : Data → EventProperties
event_in d = record {
  start = start_in d;
  length = length_in d;
  time_zone = time_zone_in d;
  is_occupying = is_occupying d;
  calendars = calendars_of d;
  people = participants_of d;
}
