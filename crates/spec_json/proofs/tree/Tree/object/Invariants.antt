use Rattle.std.proofs.Common.{◌≡◌, map}
use Rattle.spec_json.specs.TreeData.{keyed}
use Rattle.spec_json.specs.TreeData.{pair_of}
use Rattle.spec_json.proofs.tree.Tree.object.Given as goal

abbrev pub invariant-loop-key : goal.invariant-loop-key
invariant-loop-key l = map pair_of l.all.items ≡ map keyed l.yielded
