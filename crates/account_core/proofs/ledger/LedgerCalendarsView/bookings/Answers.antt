use Rattle.std.proofs.Common.{ap, length, ◌∙◌}
use Rattle.account_core.proofs.Rooms.{room_is_found, room_is_there}
use Rattle.spec_bookings.specs.Bookings.{without_booking}
use Rattle.account_core.proofs.ledger.LedgerCalendarsView.bookings.Goals as goal

pub bookings-requires : goal.bookings-requires
bookings-requires c = room_is_there _ _ _ c.args.calendar c.args.self.now.rooms_now c.requires

pub returns : goal.returns
returns c = c.bookings.ensures ∙ ap (λ bs. length (without_booking c.args.event bs)) (room_is_found _ _ _ c.args.calendar c.args.self.now.rooms_now c.requires)
