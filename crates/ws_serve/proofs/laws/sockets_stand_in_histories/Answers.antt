use Rattle.ws_serve.proofs.HistoryLemmas.{sockets_stand}
use Rattle.ws_serve.proofs.laws.sockets_stand_in_histories.Goals as goal

pub returns : goal.returns
returns c = sockets_stand
