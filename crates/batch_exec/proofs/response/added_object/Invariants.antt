use Rattle.std.proofs.Common.{◌≡◌, [], map}
use Rattle.std.specs.Vec.Iter.{into_iter_items}
use Rattle.spec_batch.specs.Batch.{id_member}
use Rattle.spec_json.specs.Edit.{put_all}
use Rattle.batch_exec.proofs.response.added_object.Given as goal

abbrev pub invariant-loop-key : goal.invariant-loop-key
invariant-loop-key l = put_all (map id_member (into_iter_items l.key-iterator)) l.object ≡ put_all (map id_member l.fn.added.items) []
