use Rattle.std.proofs.Common.{◌∙◌, IfNone, List, ap, subst}
use Rattle.account_opening.proofs.RoomLemmas.{room_bookings, room_there}
use Rattle.spec_bookings.specs.Bookings.{without_booking}
use Rattle.spec_bookings.specs.Clashes.{IsClear, first_clash}
use Rattle.spec_bookings.specs.declared.booking.Booking.{Booking}
use Rattle.account_opening.proofs.again.AgainCalendarsView.clash.Goals as goal

pub clash-requires-clause-room : goal.clash-requires-clause-room
clash-requires-clause-room c = room_there _ _ _ c.args.self.now.booked c.args.calendar c.requires.resource

pub returns-clause-exact : goal.returns-clause-exact
returns-clause-exact c =
    c.clash.ensures.exact ∙ ap (λ bs. first_clash (without_booking c.args.event bs) c.args.series.now) (room_bookings _ _ _ c.args.self.now.booked c.args.calendar c.requires.resource)

pub returns-clause-clear : goal.returns-clause-clear
returns-clause-clear c =
    subst (λ (bs : List Booking). IfNone c.clash.result (IsClear (without_booking c.args.event bs) c.args.series.now))
    (room_bookings _ _ _ c.args.self.now.booked c.args.calendar c.requires.resource) c.clash.ensures.clear
