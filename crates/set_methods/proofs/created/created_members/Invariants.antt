use Rattle.std.proofs.Common.{◌≡◌, ◌++◌, drop, map}
use Rattle.cal_model.specs.SetReply.{created_member}
use Rattle.cal_model.specs.Sets.{of_each}
use Rattle.spec_json.specs.TreeData.{pair_of}
use Rattle.set_methods.proofs.created.created_members.Given as goal

abbrev pub invariant-loop-i : goal.invariant-loop-i
invariant-loop-i l = map pair_of l.members.items ++ of_each created_member (map pair_of (drop l.i l.creates)) (drop l.i l.outcomes) ≡ of_each created_member (map pair_of l.creates) l.outcomes
