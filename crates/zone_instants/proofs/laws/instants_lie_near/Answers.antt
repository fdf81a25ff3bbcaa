-- The law of instants, by the lemma that proves it.
use Rattle.zone_instants.proofs.Offsets.{instants_lie_near}
use Rattle.zone_instants.proofs.laws.instants_lie_near.Goals as goal

pub returns : goal.returns
returns c = instants_lie_near
