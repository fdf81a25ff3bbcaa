use Rattle.std.proofs.Common.{◌≡◌, ◌++◌, map, option_and_then, option_map}
use Rattle.std.specs.Vec.Iter.{into_iter_items}
use Rattle.spec_json.specs.Parts.{all_some, as_list}
use Rattle.spec_batch.specs.Requests.{invocation_of}
use Rattle.spec_json.specs.TreeData.{data_of}
use Rattle.batch_exec.proofs.request.calls_from.Given as goal

abbrev pub invariant-loop-item : goal.invariant-loop-item
invariant-loop-item l =
    option_and_then (all_some invocation_of) (option_and_then as_list (option_map data_of l.fn.member)) ≡ option_map (λ xs. l.calls.items ++ xs) (all_some invocation_of (map data_of (into_iter_items l.item-iterator)))
