use Rattle.conn_serve.proofs.Completeness.{read_fault_last}
use Rattle.conn_serve.proofs.laws.read_faults_come_last.Goals as goal

pub returns : goal.returns
returns c = read_fault_last
