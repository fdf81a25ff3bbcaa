use Rattle.availability_method.proofs.BusyLemmas.{occupied_is}
use Rattle.availability_method.proofs.laws.events_take_up_their_occurrences.Goals as goal

pub returns : goal.returns
returns c = occupied_is
