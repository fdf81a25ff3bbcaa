use Rattle.std.proofs.Common.{◌≡◌, ◌+◌, drop, flat_map, length, sum_by}
use Rattle.account_store.specs.Store.{entries}
use Rattle.spec_history.specs.History.{changes_of, live_object, some_object}
use Rattle.spec_json.specs.Json.{text_of}
use Rattle.spec_json.specs.TreeData.{data_of}
use Rattle.account_opening.proofs.weigh.with_kind.Given as goal

abbrev pub invariant-loop-id : goal.invariant-loop-id
invariant-loop-id l = record {
  objects : l.load.objects + length (flat_map (λ n. some_object (live_object (changes_of (entries l.store)) l.kind n)) (drop l.id-index l.id-items))
      ≡ l.fn.load.objects + length (flat_map (λ n. some_object (live_object (changes_of (entries l.store)) l.kind n)) l.id-items);
  bytes : l.load.bytes + sum_by (λ t. length (text_of (data_of t))) (flat_map (λ n. some_object (live_object (changes_of (entries l.store)) l.kind n)) (drop l.id-index l.id-items))
      ≡ l.fn.load.bytes + sum_by (λ t. length (text_of (data_of t))) (flat_map (λ n. some_object (live_object (changes_of (entries l.store)) l.kind n)) l.id-items);
}
