use Rattle.std.proofs.Common.{refl}
use Rattle.availability.proofs.busy.Busy.new.Goals as goal

pub invariant_of-result : goal.invariant_of-result
invariant_of-result c = record { inside = rw c.new.ensures.items refl; near = c.requires }
