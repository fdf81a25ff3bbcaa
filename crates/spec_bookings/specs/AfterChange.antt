-- What one change more makes of the bookings of a resource.
use Rattle.std.specs.Prelude.{ℕ, List, Option, Some, None, if◌then◌else◌}
use Rattle.spec_json.specs.declared.tree.Tree.{Tree}
use Rattle.spec_history.specs.declared.entry.Change.{Change}
use Rattle.spec_history.specs.declared.entry.Kind.TheVariants.{Event}
use Rattle.spec_history.specs.History.{is_kind}
use Rattle.spec_series.specs.declared.series.Series.{Series}
use Rattle.spec_bookings.specs.declared.booking.Booking.{Booking}
use Rattle.spec_bookings.specs.Bookings.{with_booking, without_booking}
use Rattle.spec_bookings.specs.HistoryBookings.{booked_by}

-- with what an event books, if it does
abbrev pub with_booked : ℕ → Option Series → List Booking → List Booking
with_booked n None bs = bs
with_booked n (Some s) bs = with_booking n s bs

-- a change of an event takes its booking out, and books what the event books from now on
abbrev pub after_change : (Tree → Option Series) → Change → List Booking → List Booking
after_change books c bs = if is_kind Event c.kind then with_booked c.id (booked_by books c.object) (without_booking c.id bs) else bs
