-- The rooms of an account after one change more.
use Rattle.std.specs.Prelude.{◌≡◌, ◌==◌, ℕ, true, not, List, [], ◌∷◌, ◌++◌, Option, None, Some, filter, is_some, map, if◌then◌else◌}
use Rattle.account_rooms.specs.Rooms.{BookedRoom, has_room}
use Rattle.spec_events.specs.Events.{names_calendar}
use Rattle.spec_history.specs.declared.entry.Change.{Change}
use Rattle.spec_history.specs.declared.entry.Kind.{Kind}
use Rattle.spec_history.specs.declared.entry.Kind.TheVariants.{Calendar, Event}
use Rattle.spec_json.specs.TreeData.{data_of}
use Rattle.spec_json.specs.declared.tree.Tree.{Tree}
use Rattle.spec_bookings.specs.Resources.{zone_of_resource}
use Rattle.spec_series.specs.Lengths.{IsWeekLong}
use Rattle.spec_series.specs.declared.series.Series.{Series}
use Rattle.spec_bookings.specs.AfterChange.{with_booked}
use Rattle.spec_bookings.specs.HistoryBookings.{booked_by}
use Rattle.spec_bookings.specs.Bookings.{without_booking}

-- with a room that has no bookings, where the calendar has none
abbrev pub with_room : ℕ → List BookedRoom → List BookedRoom
with_room n rs = if has_room n rs then rs else rs ++ record { calendar = n; bookings = [] } ∷ []

abbrev pub without_room : ℕ → List BookedRoom → List BookedRoom
without_room n rs = filter (λ r. not (r.calendar == n)) rs

-- what an event of this series books in the calendar of a number, where it is in it
abbrev pub booked_with : Option Series → ℕ → Tree → Option Series
booked_with series calendar event = if names_calendar calendar (data_of event) then series else None

-- the room where the booking of an event is taken out, and what the event books from now on is put in
abbrev pub booked_again : ℕ → Option Tree → Option Series → BookedRoom → BookedRoom
booked_again n o series r = record { calendar = r.calendar; bookings = with_booked n (booked_by (booked_with series r.calendar) o) (without_booking n r.bookings) }

abbrev pub rooms_by : Kind → ℕ → Option Tree → Option Series → List BookedRoom → List BookedRoom
rooms_by Event n o series rs = map (booked_again n o series) rs
rooms_by Calendar n None series rs = without_room n rs
rooms_by Calendar n (Some t) series rs = if is_some (zone_of_resource t) then with_room n rs else rs

-- the rooms after a change that puts an event of this series, or none
abbrev pub rooms_after : Change → Option Series → List BookedRoom → List BookedRoom
rooms_after c series rs = rooms_by c.kind c.id c.object series rs

-- a series that may be booked: none of its occurrences lasts longer than 7 days
pub record IsShortSeries (o : Option Series) : Type 0 where
  pub series : Series
  pub is : o ≡ Some series
  pub week : IsWeekLong series

-- an event that is put has such a series where it is in one of these rooms
abbrev pub MayChange : List BookedRoom → Kind → Option Tree → Option Series → Type 0
MayChange rs Calendar o series = Unit {0}
MayChange rs Event None series = Unit {0}
MayChange rs Event (Some t) series = (n : ℕ) → has_room n rs ≡ true → names_calendar n (data_of t) ≡ true → IsShortSeries series
