-- The law of occurrences.
use Rattle.account_rooms.proofs.Covered.{not_covered_twice}
use Rattle.spec_bookings.specs.BookedResources.{bookings_of}
use Rattle.account_rooms.proofs.laws.free_rooms_are_covered_once.Goals as goal

pub returns : goal.returns
returns c = λ zones cs free n x resource. not_covered_twice (bookings_of zones cs n) x (free n resource)
