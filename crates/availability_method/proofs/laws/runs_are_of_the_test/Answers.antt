use Rattle.availability_method.proofs.RunLemmas.{are_runs_in, runs_in_cover}
use Rattle.availability_method.proofs.laws.runs_are_of_the_test.Goals as goal

pub returns-clause-runs : goal.returns-clause-runs
returns-clause-runs c = are_runs_in

pub returns-clause-cover : goal.returns-clause-cover
returns-clause-cover c = runs_in_cover
