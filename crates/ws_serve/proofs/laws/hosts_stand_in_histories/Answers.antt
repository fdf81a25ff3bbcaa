use Rattle.ws_serve.proofs.ChainLemmas.{hosts_stand}
use Rattle.ws_serve.proofs.laws.hosts_stand_in_histories.Goals as goal

pub returns : goal.returns
returns c = hosts_stand
