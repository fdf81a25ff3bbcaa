-- What an event may be that books a resource, which is this server's own: one in the resource's time zone, of which no occurrence lasts longer
-- than 7 days.
use Rattle.std.specs.Prelude.{ℕ, List, ◌&&◌, ◌==◌, Bool, true, false, not, length, nat_le}
use Rattle.std.specs.List.{list_all}
use Rattle.std.specs.Option.{option_map_or}
use Rattle.std.specs.Str.{bytes_eq}
use Rattle.spec_events.specs.Events.{length_in, time_zone_in}
use Rattle.spec_history.specs.declared.entry.Change.{Change}
use Rattle.spec_json.specs.Data.{Data}
use Rattle.spec_recurrence.specs.Overrides.{exceptions_in}
use Rattle.spec_bookings.specs.Resources.{resource_zone, resources_of}
use Rattle.spec_series.specs.Lengths.{are_week_long, most_booked_seconds}
use Rattle.spec_series.specs.SeriesLimits.{wall_seconds}
use Rattle.spec_site.specs.TimeZones.{ZoneText}

-- the event books some resource: one of its `calendarIds` (draft JMAP for Calendars) is of such a one
abbrev pub is_booking : List Change → Data → Bool
is_booking cs event = not (length (resources_of cs event) == 0)

-- the event is in this time zone (RFC 8984 section 4.7.1)
abbrev pub is_in_zone : Data → List ℕ → Bool
is_in_zone event zone = option_map_or (bytes_eq zone) (time_zone_in event) false

-- a resource that the event books has another time zone
abbrev pub is_in_other_zone : List Change → Data → Bool
is_in_other_zone cs event = not (list_all (λ n. option_map_or (is_in_zone event) (resource_zone cs n) true) (resources_of cs event))

-- the event lasts longer than a booking may, by its `duration` (RFC 8984 section 5.1.2)
abbrev pub is_long_booking : List Change → Data → Bool
is_long_booking cs event = is_booking cs event && not (nat_le (wall_seconds (length_in event)) most_booked_seconds)

-- an override lets an occurrence last longer (RFC 8984 section 4.3.5)
abbrev pub has_long_override : List ZoneText → List Change → Data → Bool
has_long_override zones cs event = is_booking cs event && not (option_map_or are_week_long (exceptions_in zones event) true)
