use Rattle.std.proofs.Common.{◌≡◌, ◌++◌, ◌≤◌, drop, map, length, option_map}
use Rattle.spec_json.specs.Parts.{all_some}
use Rattle.spec_json.specs.TreeData.{data_of}
use Rattle.spec_queries.specs.Sorts.{comparator_in}
use Rattle.query_order.proofs.sort_argument.comparators.Given as goal

abbrev pub invariant-loop-item : goal.invariant-loop-item
invariant-loop-item l = record {
  few : length l.comparators.items ≤ l.item-index;
  rest : option_map (λ cs. l.comparators.items ++ cs) (all_some comparator_in (map data_of (drop l.item-index l.items))) ≡ all_some comparator_in (map data_of l.items);
}
