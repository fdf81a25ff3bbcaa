use Rattle.std.proofs.Common.{◌≡◌, ◌++◌, drop, map}
use Rattle.cal_model.specs.Operations.{created_id}
use Rattle.cal_model.specs.Sets.{of_each}
use Rattle.spec_json.specs.TreeData.{pair_of}
use Rattle.set_methods.proofs.created.new_ids.Given as goal

abbrev pub invariant-loop-i : goal.invariant-loop-i
invariant-loop-i l = l.ids.items ++ of_each created_id (map pair_of (drop l.i l.creates)) (drop l.i l.outcomes) ≡ of_each created_id (map pair_of l.creates) l.outcomes
