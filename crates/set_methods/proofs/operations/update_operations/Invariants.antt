use Rattle.std.proofs.Common.{◌≡◌, ◌++◌, [], drop, map}
use Rattle.cal_model.specs.Sets.{updates_after}
use Rattle.spec_json.specs.TreeData.{pair_of}
use Rattle.object_outcomes.specs.Judging.{operation_in}
use Rattle.set_methods.proofs.operations.update_operations.Given as goal

abbrev pub invariant-loop-member : goal.invariant-loop-member
invariant-loop-member l = map operation_in l.operations.items ++ updates_after l.created l.destroyed l.earlier.items (map pair_of (drop l.member-index l.members))
    ≡ updates_after l.created l.destroyed [] (map pair_of l.members)
