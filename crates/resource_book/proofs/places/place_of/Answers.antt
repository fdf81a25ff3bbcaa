-- Where the booking of a number stands.
use Rattle.std.proofs.Common.{length, refl, arith}
use Rattle.std.proofs.lemmas.Option.{slice_get_read}
use Rattle.std.proofs.lemmas.List.{take_all}
use Rattle.spec_bookings.specs.declared.booking.Booking.{Booking}
use Rattle.resource_book.proofs.Orders.{without-none, without-at, is_booked-at}
use Rattle.resource_book.proofs.places.place_of.Goals as goal

pub returns-then-booked-number-clause-some : goal.returns-then-booked-number-clause-some
returns-then-booked-number-clause-some c =
    let bs = c.args.bookings.now in
    let here = slice_get_read {X = Booking} bs (length bs) c.loop-i.i c.index-bookings-i.result refl c.loop-i-test.true c.index-bookings-i.is in (
      c.loop-i-test.true,
      is_booked-at c.args.number bs c.loop-i.i c.index-bookings-i.result here (rw c.number-booked.ensures at c.if-booked-number.true),
      without-at c.args.number bs c.loop-i.i c.index-bookings-i.result c.loop-i.invariant here (rw c.number-booked.ensures at c.if-booked-number.true),
    )

pub returns-clause-none : goal.returns-clause-none
returns-clause-none c =
    let all = take_all c.loop-i.i c.args.bookings.now (omega (arith, c.loop-i-test.false)) in
    let none = rw all at c.loop-i.invariant in
    (none, without-none c.args.number c.args.bookings.now none)
