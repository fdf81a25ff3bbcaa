use Rattle.std.proofs.Common.{◌≡◌, take, false}
use Rattle.spec_bookings.specs.Bookings.{is_booked}
use Rattle.resource_book.proofs.places.place_of.Given as goal

abbrev pub invariant-loop-i : goal.invariant-loop-i
invariant-loop-i l = is_booked l.number (take l.i l.bookings) ≡ false
