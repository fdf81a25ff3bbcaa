use Rattle.std.specs.Prelude.{◌≡◌, drop, map}
use Rattle.spec_json.specs.Data.{lookup}
use Rattle.spec_json.specs.TreeData.{pair_of}
use Rattle.spec_json.proofs.tree.place.first_value.Given as goal

abbrev pub invariant-loop-member : goal.invariant-loop-member
invariant-loop-member l = lookup l.key (map pair_of (drop l.member-index l.members)) ≡ lookup l.key (map pair_of l.members)
