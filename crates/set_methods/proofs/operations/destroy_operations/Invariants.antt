use Rattle.std.proofs.Common.{◌≡◌, map, take}
use Rattle.cal_model.specs.Operations.{destroy}
use Rattle.object_outcomes.specs.Judging.{operation_in}
use Rattle.set_methods.proofs.operations.destroy_operations.Given as goal

abbrev pub invariant-loop-named : goal.invariant-loop-named
invariant-loop-named l = map operation_in l.operations.items ≡ map (λ q. destroy q.1) (take l.named-index l.fn.named)
