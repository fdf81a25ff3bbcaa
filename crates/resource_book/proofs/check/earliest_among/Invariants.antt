use Rattle.std.proofs.Common.{List, ◌++◌, take}
use Rattle.spec_bookings.specs.declared.booking.Booking.{Booking}
use Rattle.resource_book.specs.SharedSeconds.{is_shared_with, IsEarliestOf}
use Rattle.resource_book.proofs.check.earliest_among.Given as goal

-- what is found so far is the first second shared with those before and with the bookings that were looked at
abbrev pub invariant-loop-booking : goal.invariant-loop-booking
invariant-loop-booking l = (before : List Booking) → IsEarliestOf (is_shared_with before l.series) before l.initial.best
    → IsEarliestOf (is_shared_with (before ++ take l.booking-index l.bookings) l.series) (before ++ take l.booking-index l.bookings) l.best
