use Rattle.std.proofs.Common.{◌∙◌, ap, length}
use Rattle.account_opening.proofs.RoomLemmas.{room_bookings, room_there}
use Rattle.spec_bookings.specs.Bookings.{without_booking}
use Rattle.account_opening.proofs.again.AgainCalendarsView.bookings.Goals as goal

pub bookings-requires : goal.bookings-requires
bookings-requires c = room_there _ _ _ c.args.self.now.booked c.args.calendar c.requires

pub returns : goal.returns
returns c = c.bookings.ensures ∙ ap (λ bs. length (without_booking c.args.event bs)) (room_bookings _ _ _ c.args.self.now.booked c.args.calendar c.requires)
