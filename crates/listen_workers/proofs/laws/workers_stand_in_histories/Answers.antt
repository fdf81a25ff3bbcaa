use Rattle.listen_workers.proofs.ChainLemmas.{workers_stand}
use Rattle.listen_workers.proofs.laws.workers_stand_in_histories.Goals as goal

pub returns : goal.returns
returns c = workers_stand
