-- Where the booking of a number goes.
use Rattle.std.proofs.Common.{length, refl, arith}
use Rattle.std.proofs.lemmas.Option.{slice_get_read}
use Rattle.std.proofs.lemmas.List.{take_all}
use Rattle.spec_bookings.specs.declared.booking.Booking.{Booking}
use Rattle.resource_book.proofs.Orders.{with-end, with-at}
use Rattle.resource_book.proofs.places.place_for.Goals as goal

pub returns-then-number-booked-clause-at : goal.returns-then-number-booked-clause-at
returns-then-number-booked-clause-at c = λ s.
    let bs = c.args.bookings.now in
    let here = slice_get_read {X = Booking} bs (length bs) c.loop-i.i c.index-bookings-i.result refl c.loop-i-test.true c.index-bookings-i.is in
    with-at c.args.number s bs c.loop-i.i c.index-bookings-i.result c.loop-i.invariant here (rw c.number-booked.ensures at c.if-number-booked.true)

pub returns-clause-at : goal.returns-clause-at
returns-clause-at c = λ s.
    let all = take_all c.loop-i.i c.args.bookings.now (omega (arith, c.loop-i-test.false)) in
    let none = rw all at c.loop-i.invariant in
    with-end c.args.number s c.args.bookings.now none
