-- What contracts see of a resource.
use Rattle.std.specs.Prelude.{List, Option}
use Rattle.spec_series.specs.declared.series.Series.{Series}
use Rattle.spec_bookings.specs.declared.booking.Booking.{Booking}

pub record RoomView : Type 0 where
  pub bookings : List Booking
  -- the bookings that `undo` goes back to
  pub kept : List Booking
  -- the series whose booking takes no memory, if one is ready
  pub ready : Option Series
