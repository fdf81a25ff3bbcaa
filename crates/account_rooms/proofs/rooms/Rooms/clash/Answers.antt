use Rattle.std.proofs.Common.{◌∙◌, List, ap, option_map, subst, sym}
use Rattle.account_rooms.specs.Rooms.{bookings_in}
use Rattle.account_rooms.specs.RoomsView.{RoomsView}
use Rattle.account_rooms.specs.Slots.{rooms_now}
use Rattle.spec_bookings.specs.Bookings.{without_booking}
use Rattle.spec_bookings.specs.Clashes.{IsClash, second_of}
use Rattle.spec_bookings.specs.declared.booking.Booking.{Booking}
use Rattle.rule_expand.specs.Least.{IsLeastOf}
use Rattle.account_rooms.proofs.rooms.Rooms.clash.Goals as goal

pub returns-clause-least : goal.returns-clause-least
returns-clause-least c =
    let held = sym c.in-Some.ensures.some.1 ∙ ap (λ ss. bookings_in c.args.calendar (rooms_now ss)) c.deref.ensures.value ∙ ap (λ (v : RoomsView). bookings_in c.args.calendar v.rooms) c.self.view_is in
    subst (λ (bs : List Booking). IsLeastOf (IsClash (without_booking c.args.event bs) c.args.series.now) (option_map second_of c.check.result)) held c.check.ensures.least
