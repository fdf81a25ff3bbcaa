use Rattle.conn_serve.proofs.HistoryLemmas.{connections_stand}
use Rattle.conn_serve.proofs.laws.connections_stand_in_histories.Goals as goal

pub returns : goal.returns
returns c = connections_stand
