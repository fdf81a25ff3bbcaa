use Rattle.std.proofs.Common.{◌≡◌, [], map}
use Rattle.spec_json.specs.Edit.{put_all}
use Rattle.spec_json.specs.TreeData.{pair_of}
use Rattle.object_outcomes.specs.Entries.{pair_in}
use Rattle.object_outcomes.proofs.objects.by_key.Given as goal

abbrev pub invariant-loop-member : goal.invariant-loop-member
invariant-loop-member l = map pair_in l.by_key.entries ≡ put_all (map pair_of l.yielded) []
