use Rattle.std.proofs.Common.{◌≡◌, [], map}
use Rattle.spec_json.specs.Edit.{put_all}
use Rattle.spec_json.specs.TreeData.{pair_of}
use Rattle.object_outcomes.proofs.objects.one_by_one.Given as goal

abbrev pub invariant-loop-member : goal.invariant-loop-member
invariant-loop-member l = l.object ≡ put_all (map pair_of l.yielded) []
