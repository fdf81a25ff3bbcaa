use Rattle.ws_serve.proofs.ChainLemmas.{never_spent}
use Rattle.ws_serve.proofs.laws.sockets_are_never_spent.Goals as goal

pub returns : goal.returns
returns c = never_spent
