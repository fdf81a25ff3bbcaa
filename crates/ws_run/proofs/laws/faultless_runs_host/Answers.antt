use Rattle.ws_run.proofs.FaultlessLemmas.{faultless_runs_host}
use Rattle.ws_run.proofs.laws.faultless_runs_host.Goals as goal

pub returns : goal.returns
returns c = faultless_runs_host
