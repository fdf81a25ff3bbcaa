use Rattle.std.proofs.Common.{◌≡◌, ◌++◌, drop, map}
use Rattle.cal_model.specs.SetReply.{members_beyond}
use Rattle.spec_json.specs.Parts.{members_in}
use Rattle.spec_json.specs.TreeData.{data_of, pair_of}
use Rattle.set_methods.proofs.created.members_beyond.Given as goal

abbrev pub invariant-loop-member : goal.invariant-loop-member
invariant-loop-member l = map pair_of l.beyond.items ++ members_beyond (members_in (data_of l.client)) (map pair_of (drop l.member-index l.stored)) ≡ members_beyond (members_in (data_of l.client)) (map pair_of l.stored)
