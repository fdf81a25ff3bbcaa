-- The events that a filter holds of (draft JMAP for Calendars).
use Rattle.std.specs.Prelude.{ℕ, ℤ, List, [], ◌&&◌, ◌||◌, Bool, true, false, Option, Some, None, codes, is_some, option_and_then, option_map, unwrap_or, if◌then◌else◌}
use Rattle.std.specs.List.{list_any}
use Rattle.std.specs.Option.{option_map_or}
use Rattle.std.specs.Str.{bytes_eq}
use Rattle.folded_text.specs.Contains.{contains}
use Rattle.jiff_tz.specs.PosixText.{TzText}
use Rattle.spec_events.specs.Events.{participants_of}
use Rattle.spec_events.specs.Participants.{ParticipantProperties, any_meets}
use Rattle.spec_filters.specs.Filters.{asks_time, holds}
use Rattle.spec_filters.specs.Members.{given_at, text_given}
use Rattle.spec_json.specs.Data.{Data, Pair, lookup}
use Rattle.spec_json.specs.Parts.{members_in, object_at, text_at}
use Rattle.spec_recurrence.specs.SeriesOf.{series_in}
use Rattle.spec_series.specs.declared.series.Series.{Series}
use Rattle.spec_site.specs.TimeZones.{ZoneText}
use Rattle.spec_time.specs.LocalTimes.{local_in}
use Rattle.spec_windows.specs.Clocks.{instant_in}
use Rattle.spec_windows.specs.Overlaps.{has_overlapping}
use Rattle.spec_windows.specs.ZoneRules.{rule_of, rule_of_event, utc_rule}
use Rattle.spec_windows.specs.declared.window.Window.{Window}

-- What the texts of a condition are looked for in.

-- `inCalendar`: the event is in the calendar of this id
abbrev pub is_in_calendar : Data → List ℕ → Bool
is_in_calendar event id = is_some (lookup id (unwrap_or (object_at (codes "calendarIds") event) []))

-- `uid`
abbrev pub has_uid : Data → List ℕ → Bool
has_uid event uid = option_map_or (bytes_eq uid) (text_at (codes "uid") event) false

-- a text of the event, which is empty where it is left out, contains the other, whatever their case
abbrev pub contains_at : List ℕ → Data → List ℕ → Bool
contains_at key event needle = contains (unwrap_or (text_at key event) []) needle

-- the name or the email of a participant does
abbrev pub is_called : List ℕ → ParticipantProperties → Bool
is_called needle p = option_map_or (λ name. contains name needle) p.name false || option_map_or (λ email. contains email needle) p.email false

-- `text`: the title, the description, or a participant's name or email
abbrev pub says : Data → List ℕ → Bool
says event needle =
    contains_at (codes "title") event needle
    || (contains_at (codes "description") event needle || list_any (is_called needle) (participants_of event))

-- `after` and `before`

-- the wall second of the LocalDateTime of a member
abbrev pub wall_given : List ℕ → List Pair → Option ℤ
wall_given key ps = option_and_then local_in (text_given key ps)

-- from the instant of the one to that of the other, by a rule
abbrev pub instants_asked : TzText → List Pair → Window
instants_asked clock ps = record {
  after = option_and_then (instant_in clock) (wall_given (codes "after") ps);
  before = option_and_then (instant_in clock) (wall_given (codes "before") ps);
}

abbrev pub both : Option ℤ → Option ℤ → Option (ℤ × ℤ)
both after before = option_and_then (λ a. option_map (λ b. (a, b)) before) after

abbrev pub walls_asked : List Pair → Option (ℤ × ℤ)
walls_asked ps = both (wall_given (codes "after") ps) (wall_given (codes "before") ps)

-- the wall seconds of a filter that is one condition with both members
abbrev pub window_asked : Data → Option (ℤ × ℤ)
window_asked filter = if is_some (given_at (codes "operator") (members_in filter)) then None else walls_asked (members_in filter)

-- one occurrence ends after the one instant and starts before the other; an event without series, or whose zone has no rule, has none
abbrev pub overlaps_by : Option Series → Option TzText → Window → Bool
overlaps_by None rule w = false
overlaps_by (Some s) None w = false
overlaps_by (Some s) (Some rule) w = has_overlapping s (instant_in rule) w

-- where either member stands
abbrev pub times_meet : TzText → Option Series → Option TzText → List Pair → Bool
times_meet clock series rule ps = if asks_time ps then overlaps_by series rule (instants_asked clock ps) else true

-- `participant` and `participationStatus`, where either stands: one participant meets both
abbrev pub people_meet : Data → Option (List ℕ) → Option (List ℕ) → Bool
people_meet event needle status =
    if is_some needle || is_some status then any_meets (option_map (λ n s. contains s n) needle) status (participants_of event) else true

-- The event passes where a member is a text.
abbrev pub asks : List ℕ → List Pair → (List ℕ → Bool) → Bool
asks key ps passes = option_map_or passes (text_given key ps) true

-- A condition holds where all its members do: by the rule of the query's zone, and by the event with its series and the rule of its zone.
unfoldable pub meets_condition : TzText → Option Series → Option TzText → Data → List Pair → Bool
meets_condition clock series rule event ps =
    asks (codes "inCalendar") ps (is_in_calendar event)
    && (asks (codes "uid") ps (has_uid event)
    && (times_meet clock series rule ps
    && (asks (codes "title") ps (contains_at (codes "title") event)
    && (asks (codes "text") ps (says event)
    && people_meet event (text_given (codes "participant") ps) (text_given (codes "participationStatus") ps)))))

-- a filter holds of an event
abbrev pub matches_by : TzText → Option Series → Option TzText → Data → Data → Bool
matches_by clock series rule filter event = holds (meets_condition clock series rule event) filter

-- the same by the zones of a configuration; the query's zone, which floating events have too, is one of them
abbrev pub event_matches : List ZoneText → List ℕ → Data → Data → Bool
event_matches zones zone filter event =
    matches_by (unwrap_or (rule_of zones zone) utc_rule) (series_in zones event) (rule_of_event zones zone event) filter event
