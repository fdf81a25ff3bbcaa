use Rattle.account_desk.proofs.ConnectionLemmas.{connections_determined}
use Rattle.account_desk.proofs.laws.connections_are_determined.Goals as goal

pub returns : goal.returns
returns c = connections_determined
