-- Steps that change bookings, and what was before them.
use Rattle.std.specs.Prelude.{ℕ, ◌<◌, ◌≤◌, List, [], ◌∷◌, length, insert, remove, Option, Some, None}
use Rattle.spec_series.specs.declared.series.Series.{Series}
use Rattle.spec_bookings.specs.declared.booking.Booking.{Booking}
use Rattle.resource_book.specs.declared.round.Undo.{Undo}
use Rattle.resource_book.specs.declared.round.Undo.TheVariants.{Retired, Booked}

-- the bookings before a step
abbrev pub before_step : Undo → List Booking → List Booking
before_step (Retired i b) bs = insert bs i b
before_step (Booked i) bs = remove bs i

-- the bookings before all of the steps, of which the first comes first
abbrev pub before_steps : List Undo → List Booking → List Booking
before_steps [] bs = bs
before_steps (u ∷ us) bs = before_step u (before_steps us bs)

-- the step can be taken back
abbrev pub IsWayBack : Undo → List Booking → Type 0
IsWayBack (Retired i b) bs = i ≤ length bs
IsWayBack (Booked i) bs = i < length bs

abbrev pub AreWaysBack : List Undo → List Booking → Type 0
AreWaysBack [] bs = Unit {0}
AreWaysBack (u ∷ us) bs = AreWaysBack us bs × IsWayBack u (before_steps us bs)

-- the places that the booking of a ready series needs, for itself and to be taken back
abbrev pub places_for : Option Series → ℕ
places_for None = 0
places_for (Some s) = 2
