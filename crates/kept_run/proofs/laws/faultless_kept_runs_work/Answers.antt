use Rattle.kept_run.proofs.Faultless.{faultless_kept_runs_work}
use Rattle.kept_run.proofs.laws.faultless_kept_runs_work.Goals as goal

pub returns : goal.returns
returns c = faultless_kept_runs_work
