-- The bookings that the room holds are those that contracts see.
use Rattle.std.proofs.Common.{List, option_map, subst, ap, ◌∙◌}
use Rattle.rule_expand.specs.Least.{IsLeastOf}
use Rattle.spec_bookings.specs.declared.booking.Booking.{Booking}
use Rattle.spec_bookings.specs.Bookings.{but}
use Rattle.spec_bookings.specs.Clashes.{IsClash, second_of}
use Rattle.resource_book.specs.RoomView.{RoomView}
use Rattle.resource_book.proofs.room.Room.check_by.Goals as goal

pub returns-clause-least : goal.returns-clause-least
returns-clause-least c =
    let e = c.deref.ensures.value ∙ ap (λ (r : RoomView). r.bookings) c.self.view_is in
    subst (λ (bs : List Booking). IsLeastOf (IsClash (but c.args.except bs) c.args.series.now) (option_map second_of c.check_with.result)) e c.check_with.ensures.least
