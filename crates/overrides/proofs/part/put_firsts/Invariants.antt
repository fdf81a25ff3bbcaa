use Rattle.std.proofs.Common.{◌≡◌, drop}
use Rattle.spec_json.specs.Parts.{members_in}
use Rattle.spec_json.specs.TreeData.{data_of}
use Rattle.overrides.specs.Parts.{with_each_member}
use Rattle.overrides.proofs.part.put_firsts.Given as goal

abbrev pub invariant-loop-first : goal.invariant-loop-first
invariant-loop-first l = with_each_member (drop l.first-index l.firsts) (members_in (data_of l.event)) l.part ≡ with_each_member l.firsts (members_in (data_of l.event)) l.fn.part
