use Rattle.jmapd_run.proofs.Completing.{faultless_runs_work}
use Rattle.jmapd_run.proofs.laws.faultless_runs_work.Goals as goal

pub returns : goal.returns
returns c = faultless_runs_work
