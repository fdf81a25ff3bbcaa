use Rattle.std.proofs.Common.{◌≡◌, ◌++◌, drop, filter, map}
use Rattle.cal_model.specs.Gets.{is_asked_for}
use Rattle.spec_json.specs.TreeData.{pair_of}
use Rattle.account_core.proofs.properties.chosen.Given as goal

abbrev pub invariant-loop-member : goal.invariant-loop-member
invariant-loop-member l = map pair_of l.chosen.items ++ filter (is_asked_for l.asked) (map pair_of (drop l.member-index l.members)) ≡ filter (is_asked_for l.asked) (map pair_of l.members)
