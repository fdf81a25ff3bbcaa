-- What is kept of a filter that asks when an event is.
use Rattle.std.specs.Prelude.{ℕ, List, [], ◌∷◌, ◌&&◌, ◌||◌, Bool, not, Option, Some, None, codes, is_some, if◌then◌else◌}
use Rattle.jiff_tz.specs.PosixText.{TzText}
use Rattle.spec_filters.specs.Filters.{asks_time}
use Rattle.spec_filters.specs.Matches.{asks, contains_at, has_uid, instants_asked, is_in_calendar, people_meet, says}
use Rattle.spec_filters.specs.Members.{given_at, has_other_than, text_given}
use Rattle.spec_json.specs.Data.{Data, Pair}
use Rattle.spec_json.specs.Parts.{members_in}
use Rattle.query_filter.specs.declared.times.Times.{Times}

abbrev pub time_names : List (List ℕ)
time_names = codes "after" ∷ codes "before" ∷ []

-- the window of a condition, and whether it asks for nothing else
abbrev pub condition_times : TzText → List Pair → Times
condition_times clock ps = record { window = instants_asked clock ps; are_all = not (has_other_than time_names ps) }

-- of an object, where it is a condition that asks when an event is
abbrev pub object_times : TzText → List Pair → Option Times
object_times clock ps = if is_some (given_at (codes "operator") ps) || not (asks_time ps) then None else Some (condition_times clock ps)

-- of a filter, where it is such a condition
abbrev pub times_of : TzText → Data → Option Times
times_of clock filter = object_times clock (members_in filter)

-- the event is in the calendar and has the uid that a condition asks for
abbrev pub has_ids : Data → List Pair → Bool
has_ids event ps = asks (codes "inCalendar") ps (is_in_calendar event) && asks (codes "uid") ps (has_uid event)

-- it has the texts and the participant
abbrev pub texts_meet : Data → List Pair → Bool
texts_meet event ps =
    asks (codes "title") ps (contains_at (codes "title") event)
    && (asks (codes "text") ps (says event)
    && people_meet event (text_given (codes "participant") ps) (text_given (codes "participationStatus") ps))

abbrev pub others_meet : Data → List Pair → Bool
others_meet event ps = has_ids event ps && texts_meet event ps
