-- The rooms of an account: its live resource calendars, each with its bookings.
use Rattle.std.specs.Prelude.{◌≡◌, ◌≤◌, ◌==◌, ℕ, Bool, true, List, [], ◌∷◌, None, length, map, if◌then◌else◌}
use Rattle.std.specs.List.{list_any}
use Rattle.spec_history.specs.History.{live_object}
use Rattle.spec_history.specs.declared.entry.Change.{Change}
use Rattle.spec_history.specs.declared.entry.Kind.TheVariants.{Calendar}
use Rattle.spec_bookings.specs.BookedResources.{bookings_of}
use Rattle.spec_bookings.specs.Resources.{is_resource, resources_at}
use Rattle.spec_bookings.specs.declared.limits.TheConstants.{MAX_BOOKINGS}
use Rattle.spec_bookings.specs.declared.booking.Booking.{Booking}
use Rattle.spec_site.specs.TimeZones.{ZoneText}
use Rattle.spec_bookings.specs.Free.{IsFree}

-- a resource calendar, by its number, with its bookings
pub record BookedRoom : Type 0 where
  pub calendar : ℕ
  pub bookings : List Booking

abbrev pub room_at : List ZoneText → List Change → ℕ → BookedRoom
room_at zones cs n = record { calendar = n; bookings = bookings_of zones cs n }

-- the rooms at some changes, in order of creation
abbrev pub rooms_at : List ZoneText → List Change → List BookedRoom
rooms_at zones cs = map (room_at zones cs) (resources_at cs)

abbrev pub has_room : ℕ → List BookedRoom → Bool
has_room n rs = list_any (λ r. r.calendar == n) rs

-- the bookings in the room of a calendar
abbrev pub bookings_in : ℕ → List BookedRoom → List Booking
bookings_in n [] = []
bookings_in n (r ∷ rs) = if r.calendar == n then r.bookings else bookings_in n rs

-- no second of a live resource calendar is covered twice, as the tests of a second tell
abbrev pub AreFree : List ZoneText → List Change → Type 0
AreFree zones cs = (n : ℕ) → is_resource cs n ≡ true → IsFree (bookings_of zones cs n)

-- the rooms are those at these changes, of which no second is covered twice; no room has more bookings than it may have, and a calendar that
-- isn't live has none
pub record AreRooms (zones : List ZoneText) (cs : List Change) (rs : List BookedRoom) : Type 0 where
  pub rooms : rs ≡ rooms_at zones cs
  pub free : AreFree zones cs
  pub few : (n : ℕ) → is_resource cs n ≡ true → length (bookings_of zones cs n) ≤ MAX_BOOKINGS
  pub none : (n : ℕ) → live_object cs Calendar n ≡ None → bookings_of zones cs n ≡ []
