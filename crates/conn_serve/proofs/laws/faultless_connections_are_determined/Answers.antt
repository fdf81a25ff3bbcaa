use Rattle.conn_serve.proofs.Completeness.{faultless_determined}
use Rattle.conn_serve.proofs.laws.faultless_connections_are_determined.Goals as goal

pub returns : goal.returns
returns c = faultless_determined
