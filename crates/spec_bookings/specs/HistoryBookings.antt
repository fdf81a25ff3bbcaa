-- The bookings that the live events of a history make in a resource. `books` gives the series that an event's object books there, if it does.
use Rattle.std.specs.Prelude.{ℕ, List, [], ◌∷◌, Option, Some, None, flat_map, nat_lt, option_and_then}
use Rattle.spec_json.specs.InOrder.{in_order}
use Rattle.spec_json.specs.declared.tree.Tree.{Tree}
use Rattle.spec_history.specs.declared.entry.Change.{Change}
use Rattle.spec_history.specs.declared.entry.Kind.TheVariants.{Event}
use Rattle.spec_history.specs.History.{ids_at, live_object}
use Rattle.spec_series.specs.declared.series.Series.{Series}
use Rattle.spec_bookings.specs.declared.booking.Booking.{Booking}

-- the series that an event books, where it is live
abbrev pub booked_by : (Tree → Option Series) → Option Tree → Option Series
booked_by books o = option_and_then books o

-- the booking under a number, where a series is booked
abbrev pub booking_of : ℕ → Option Series → List Booking
booking_of n None = []
booking_of n (Some s) = record { number = n; series = s } ∷ []

-- what each live event books, in order of their numbers, which is that of creation
abbrev pub bookings_at : (Tree → Option Series) → List Change → List Booking
bookings_at books cs = flat_map (λ n. booking_of n (booked_by books (live_object cs Event n))) (in_order nat_lt (ids_at cs Event))
