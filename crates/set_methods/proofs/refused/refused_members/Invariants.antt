use Rattle.std.proofs.Common.{◌≡◌, ◌++◌, drop, map}
use Rattle.cal_model.specs.SetReply.{refused_member}
use Rattle.cal_model.specs.Sets.{of_each}
use Rattle.spec_json.specs.TreeData.{pair_of}
use Rattle.set_methods.proofs.refused.refused_members.Given as goal

abbrev pub invariant-loop-i : goal.invariant-loop-i
invariant-loop-i l = map pair_of l.refused.items ++ of_each refused_member (map pair_of (drop l.i l.members)) (drop l.i l.outcomes) ≡ of_each refused_member (map pair_of l.members) l.outcomes
