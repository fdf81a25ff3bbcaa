-- The law of the search.
use Rattle.account_rooms.proofs.Seconds.{least_first_clash}
use Rattle.account_rooms.proofs.clash_laws.first_clashes_are_least.Goals as goal

pub returns : goal.returns
returns c = least_first_clash
