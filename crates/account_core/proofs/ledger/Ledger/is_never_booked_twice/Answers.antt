use Rattle.std.specs.Arc.{arc_value}
use Rattle.account_core.specs.Ledger.{history}
use Rattle.account_rooms.proofs.Covered.{not_covered_twice}
use Rattle.spec_bookings.specs.BookedResources.{bookings_of}
use Rattle.account_core.proofs.ledger.Ledger.is_never_booked_twice.Goals as goal

pub returns-clause-occurrences : goal.returns-clause-occurrences
returns-clause-occurrences c = λ n x resource.
    not_covered_twice (bookings_of (arc_value c.args.self.now.zones) (history c.args.self.now) n) x (c.args.self.now.kept_rooms.free n resource)
