use Rattle.conn_serve.proofs.Completeness.{faultless}
use Rattle.conn_serve.proofs.laws.faultless_connections_are_answered.Goals as goal

pub returns : goal.returns
returns c = faultless
