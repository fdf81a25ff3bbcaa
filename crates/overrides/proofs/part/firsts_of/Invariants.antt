use Rattle.std.proofs.Common.{◌≡◌, ◌++◌, drop, map}
use Rattle.spec_json.specs.TreeData.{pair_of}
use Rattle.overrides.specs.Parts.{firsts_of}
use Rattle.overrides.proofs.part.firsts_of.Given as goal

abbrev pub invariant-loop-member : goal.invariant-loop-member
invariant-loop-member l = l.firsts.items ++ firsts_of (map pair_of (drop l.member-index l.patch)) ≡ firsts_of (map pair_of l.patch)
