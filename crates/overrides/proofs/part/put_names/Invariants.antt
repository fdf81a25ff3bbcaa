use Rattle.std.proofs.Common.{◌≡◌, drop, map}
use Rattle.spec_json.specs.Parts.{members_in}
use Rattle.spec_json.specs.TreeData.{data_of}
use Rattle.overrides.specs.Parts.{with_each_member}
use Rattle.overrides.proofs.part.put_names.Given as goal

abbrev pub invariant-loop-name : goal.invariant-loop-name
invariant-loop-name l = with_each_member (map (λ name. name.now) (drop l.name-index l.names)) (members_in (data_of l.event)) l.part ≡ with_each_member (map (λ name. name.now) l.names) (members_in (data_of l.event)) l.fn.part
