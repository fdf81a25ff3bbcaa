-- The laws of refusals.
use Rattle.account_rooms.proofs.Outcomes.{clashes_are_exact, clashes_are_first, clashes_are_of_storing, others_are_stored}
use Rattle.account_rooms.proofs.clash_laws.bookings_clash_where_two_would_cover_a_second.Goals as goal

pub returns-clause-exact : goal.returns-clause-exact
returns-clause-exact c = clashes_are_exact

pub returns-clause-first : goal.returns-clause-first
returns-clause-first c = clashes_are_first

pub returns-clause-others : goal.returns-clause-others
returns-clause-others c = others_are_stored

pub returns-clause-storing : goal.returns-clause-storing
returns-clause-storing c = clashes_are_of_storing
