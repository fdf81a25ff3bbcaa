use Rattle.std.proofs.Common.{◌≡◌, ◌++◌, drop, map}
use Rattle.cal_model.specs.SetReply.{updated_member}
use Rattle.cal_model.specs.Sets.{of_each}
use Rattle.spec_json.specs.TreeData.{pair_of}
use Rattle.set_methods.proofs.changed.updated_members.Given as goal

abbrev pub invariant-loop-i : goal.invariant-loop-i
invariant-loop-i l = map pair_of l.members.items ++ of_each updated_member (map pair_of (drop l.i l.updates)) (drop l.i l.outcomes) ≡ of_each updated_member (map pair_of l.updates) l.outcomes
