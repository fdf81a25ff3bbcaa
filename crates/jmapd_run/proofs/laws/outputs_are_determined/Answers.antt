use Rattle.jmapd_run.proofs.OutputLemmas.{outputs_determined}
use Rattle.jmapd_run.proofs.laws.outputs_are_determined.Goals as goal

pub returns : goal.returns
returns c = outputs_determined
