use Rattle.std.proofs.Common.{IfNone, List, ap, option_map, subst, ◌∙◌}
use Rattle.account_core.proofs.Rooms.{room_is_found, room_is_there}
use Rattle.spec_bookings.specs.Bookings.{without_booking}
use Rattle.spec_bookings.specs.Clashes.{IsClash, IsClear, first_clash, second_of}
use Rattle.spec_bookings.specs.declared.booking.Booking.{Booking}
use Rattle.rule_expand.specs.Least.{IsLeastOf}
use Rattle.account_core.proofs.ledger.Ledger.first_clash.Goals as goal

pub clash-requires-clause-room : goal.clash-requires-clause-room
clash-requires-clause-room c = room_is_there _ _ _ c.args.calendar c.args.self.now.rooms_now c.requires.resource

pub returns-clause-exact : goal.returns-clause-exact
returns-clause-exact c =
    c.clash.ensures.exact ∙ ap (λ bs. first_clash (without_booking c.args.event bs) c.args.series.now) (room_is_found _ _ _ c.args.calendar c.args.self.now.rooms_now c.requires.resource)

pub returns-clause-clear : goal.returns-clause-clear
returns-clause-clear c =
    subst (λ (bs : List Booking). IfNone c.clash.result (IsClear (without_booking c.args.event bs) c.args.series.now))
    (room_is_found _ _ _ c.args.calendar c.args.self.now.rooms_now c.requires.resource) c.clash.ensures.clear

pub returns-clause-least : goal.returns-clause-least
returns-clause-least c =
    subst (λ (bs : List Booking). IsLeastOf (IsClash (without_booking c.args.event bs) c.args.series.now) (option_map second_of c.clash.result))
    (room_is_found _ _ _ c.args.calendar c.args.self.now.rooms_now c.requires.resource) c.clash.ensures.least
