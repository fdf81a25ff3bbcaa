use Rattle.ws_serve.proofs.Completeness.{faultless}
use Rattle.ws_serve.proofs.laws.faultless_sockets_are_answered.Goals as goal

pub returns : goal.returns
returns c = faultless
