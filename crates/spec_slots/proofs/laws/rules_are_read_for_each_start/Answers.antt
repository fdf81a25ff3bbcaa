use Rattle.spec_slots.proofs.Wishes.{rules_alike}
use Rattle.spec_slots.proofs.laws.rules_are_read_for_each_start.Goals as goal

pub returns : goal.returns
returns c = λ x y rules. rules_alike x y rules
