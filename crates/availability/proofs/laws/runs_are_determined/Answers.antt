-- The law of busy periods, by the lemma that proves it.
use Rattle.availability.proofs.Determined.{determined}
use Rattle.availability.proofs.laws.runs_are_determined.Goals as goal

pub returns : goal.returns
returns c = determined
