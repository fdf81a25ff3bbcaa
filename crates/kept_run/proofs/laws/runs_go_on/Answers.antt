use Rattle.kept_run.proofs.GoingOn.{runs_go_on}
use Rattle.kept_run.proofs.laws.runs_go_on.Goals as goal

pub returns : goal.returns
returns c = runs_go_on
