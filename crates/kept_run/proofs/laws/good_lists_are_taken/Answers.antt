use Rattle.kept_run.proofs.Faultless.{good_lists_are_taken}
use Rattle.kept_run.proofs.laws.good_lists_are_taken.Goals as goal

pub returns : goal.returns
returns c = good_lists_are_taken
