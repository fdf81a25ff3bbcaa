use Rattle.std.proofs.Common.{◌≡◌, ◌+◌, ◌-◌, ◌*◌, ◌^◌, ◌<◌, length, drop, map, option_map, flat_map}
use Rattle.json_edge.specs.Lengths.{saturated, size_of_items}
use Rattle.spec_json.specs.Parts.{all_some}
use Rattle.spec_batch.specs.References.{items_or_self, value_by}
use Rattle.spec_json.specs.TreeData.{data_of}
use Rattle.result_refs.proofs.size.+size.Given as goal

abbrev pub decreases-size_by : goal.decreases-size_by
decreases-size_by l = 2 * (length l.parts.now - l.i)

abbrev pub decreases-size_joined : goal.decreases-size_joined
decreases-size_joined l = 2 * (length l.parts.now - l.i) + 1

abbrev pub invariant-size_joined-loop-item : goal.invariant-size_joined-loop-item
invariant-size_joined-loop-item l = record {
  sum : option_map (λ ds. saturated (l.bytes + size_of_items (flat_map items_or_self ds))) (all_some (λ d. value_by (drop l.i l.parts) d) (map data_of (drop l.item-index l.items)))
      ≡ option_map (λ ds. saturated (size_of_items (flat_map items_or_self ds))) (all_some (λ d. value_by (drop l.i l.parts) d) (map data_of l.items));
  small : l.bytes < 2 ^ 64;
}
