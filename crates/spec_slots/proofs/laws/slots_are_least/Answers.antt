use Rattle.spec_slots.proofs.Least.{least}
use Rattle.spec_slots.proofs.laws.slots_are_least.Goals as goal

pub returns : goal.returns
returns c = λ clash from to h. least clash from to h
