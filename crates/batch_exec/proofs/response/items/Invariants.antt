use Rattle.std.proofs.Common.{◌≡◌, ◌++◌, map}
use Rattle.std.specs.Vec.Iter.{into_iter_items}
use Rattle.spec_batch.specs.Batch.{response_data}
use Rattle.spec_json.specs.TreeData.{data_of}
use Rattle.batch_exec.proofs.response.items.Given as goal

abbrev pub invariant-loop-response : goal.invariant-loop-response
invariant-loop-response l = map data_of l.items.items ++ map response_data (into_iter_items l.response-iterator) ≡ map response_data l.fn.responses.items
