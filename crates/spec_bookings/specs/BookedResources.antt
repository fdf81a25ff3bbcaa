-- The bookings of the resources of an account, and what stands against one more.
use Rattle.std.specs.Prelude.{ℕ, List, [], ◌∷◌, Bool, Option, Some, None, length, nat_le, option_and_then, option_map, if◌then◌else◌}
use Rattle.std.specs.List.{list_any}
use Rattle.std.specs.Option.{option_or}
use Rattle.spec_events.specs.Events.{names_calendar}
use Rattle.spec_history.specs.declared.entry.Change.{Change}
use Rattle.spec_json.specs.Data.{Data}
use Rattle.spec_json.specs.TreeData.{data_of}
use Rattle.spec_json.specs.declared.tree.Tree.{Tree}
use Rattle.spec_recurrence.specs.SeriesOf.{series_in}
use Rattle.spec_bookings.specs.Resources.{resources_of}
use Rattle.spec_bookings.specs.declared.limits.TheConstants.{MAX_BOOKINGS}
use Rattle.spec_bookings.specs.Bookings.{but}
use Rattle.spec_bookings.specs.Clashes.{first_clash}
use Rattle.spec_bookings.specs.declared.booking.Booking.{Booking}
use Rattle.spec_bookings.specs.declared.clash.Clash.{Clash}
use Rattle.spec_series.specs.declared.series.Series.{Series}
use Rattle.spec_site.specs.TimeZones.{ZoneText}
use Rattle.spec_bookings.specs.HistoryBookings.{bookings_at}

-- the series that an event books in the calendar of a number, where it is in it
abbrev pub booked_in : List ZoneText → ℕ → Tree → Option Series
booked_in zones calendar event = if names_calendar calendar (data_of event) then series_in zones (data_of event) else None

-- the bookings of a calendar: those of the live events that are in it, in order of creation
abbrev pub bookings_of : List ZoneText → List Change → ℕ → List Booking
bookings_of zones cs calendar = bookings_at (booked_in zones calendar) cs

-- the same without that of an event
abbrev pub other_bookings : List ZoneText → List Change → ℕ → ℕ → List Booking
other_bookings zones cs event calendar = but (Some event) (bookings_of zones cs calendar)

-- a resource that the event would book has as many bookings of others as it may have
abbrev pub has_full_resource : List ZoneText → List Change → ℕ → Data → Bool
has_full_resource zones cs event d = list_any (λ n. nat_le MAX_BOOKINGS (length (other_bookings zones cs event n))) (resources_of cs d)

-- the clash of a series with the bookings of others in a calendar, if there is one
abbrev pub clash_in : List ZoneText → List Change → ℕ → Series → ℕ → Option (ℕ × Clash)
clash_in zones cs event s calendar = option_map (λ clash. (calendar, clash)) (first_clash (other_bookings zones cs event calendar) s)

-- the same in the first of these calendars in which there is one
abbrev pub first_clash_in : List ZoneText → List Change → ℕ → Series → List ℕ → Option (ℕ × Clash)
first_clash_in zones cs event s [] = None
first_clash_in zones cs event s (n ∷ ns) = option_or (clash_in zones cs event s n) (first_clash_in zones cs event s ns)

-- the first resource in order of creation in which an event would clash, with the clash
abbrev pub clash_of_event : List ZoneText → List Change → ℕ → Data → Option (ℕ × Clash)
clash_of_event zones cs event d = option_and_then (λ s. first_clash_in zones cs event s (resources_of cs d)) (series_in zones d)
