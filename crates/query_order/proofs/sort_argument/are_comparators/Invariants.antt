use Rattle.std.proofs.Common.{◌≡◌, drop, map}
use Rattle.std.specs.List.{list_all}
use Rattle.spec_json.specs.TreeData.{data_of}
use Rattle.spec_queries.specs.Sorts.{is_comparator}
use Rattle.query_order.proofs.sort_argument.are_comparators.Given as goal

abbrev pub invariant-loop-item : goal.invariant-loop-item
invariant-loop-item l = list_all is_comparator (map data_of (drop l.item-index l.items)) ≡ list_all is_comparator (map data_of l.items)
