use Rattle.std.proofs.Common.{◌≡◌, map}
use Rattle.spec_json.specs.TreeData.{pair_of}
use Rattle.object_outcomes.specs.Entries.{pair_in}
use Rattle.object_outcomes.proofs.objects.members_of.Given as goal

abbrev pub invariant-loop-key : goal.invariant-loop-key
invariant-loop-key l = map pair_of l.members.items ≡ map pair_in l.yielded
