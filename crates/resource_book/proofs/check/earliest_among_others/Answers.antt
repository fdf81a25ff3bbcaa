-- The bookings before the excepted one, and those after it.
use Rattle.std.proofs.Common.{take, subst, List, []}
use Rattle.spec_bookings.specs.declared.booking.Booking.{Booking}
use Rattle.resource_book.specs.SharedSeconds.{is_shared_with, IsEarliestOf}
use Rattle.resource_book.proofs.Clashes.{nothing_shared}
use Rattle.resource_book.proofs.Orders.{both_sides}
use Rattle.resource_book.proofs.check.earliest_among_others.Goals as goal

pub returns-in-None : goal.returns-in-None
returns-in-None c = rw c.in-None.ensures.none (c.earliest_among-in-None.ensures [] (nothing_shared c.args.series.now))

pub returns-in-Some : goal.returns-in-Some
returns-in-Some c =
    let bs = c.args.bookings.now in
    let i = c.in-Some.i in
    let earlier = c.earliest_among-earlier.ensures [] (nothing_shared c.args.series.now) in
    let all = c.earliest_among.ensures (take i bs) earlier in
    rw (c.in-Some.ensures.some.1) (subst (λ (cs : List Booking). IsEarliestOf (is_shared_with cs c.args.series.now) cs c.earliest_among.result) (both_sides bs i) all)
