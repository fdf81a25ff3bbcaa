-- The series that is prepared is the booking's.
use Rattle.std.proofs.Common.{subst}
use Rattle.spec_series.specs.Shared.{IsShared}
use Rattle.rule_expand.specs.Least.{IsLeastOf}
use Rattle.spec_bookings.specs.declared.booking.Booking.{Booking}
use Rattle.resource_book.proofs.prepared_booking.PreparedBooking.first_shared.Goals as goal

pub returns-clause-least : goal.returns-clause-least
returns-clause-least c = subst (λ (b : Booking). IsLeastOf (IsShared b.series c.args.series.now) c.first_shared_with.result) c.self.view_is c.first_shared_with.ensures.least
