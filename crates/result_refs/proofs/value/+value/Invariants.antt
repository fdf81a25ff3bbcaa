use Rattle.std.proofs.Common.{◌≡◌, ◌+◌, ◌-◌, ◌*◌, ◌++◌, length, drop, map, option_map, flat_map}
use Rattle.spec_json.specs.Parts.{all_some}
use Rattle.spec_batch.specs.References.{items_or_self, value_by}
use Rattle.spec_json.specs.TreeData.{data_of}
use Rattle.result_refs.proofs.value.+value.Given as goal

abbrev pub decreases-value_by : goal.decreases-value_by
decreases-value_by l = 2 * (length l.parts.now - l.i)

abbrev pub decreases-values_joined : goal.decreases-values_joined
decreases-values_joined l = 2 * (length l.parts.now - l.i) + 1

abbrev pub invariant-values_joined-loop-item : goal.invariant-values_joined-loop-item
invariant-values_joined-loop-item l =
    option_map (λ ds. map data_of l.joined.items ++ flat_map items_or_self ds) (all_some (λ d. value_by (drop l.i l.parts) d) (map data_of (drop l.item-index l.items)))
    ≡ option_map (λ ds. flat_map items_or_self ds) (all_some (λ d. value_by (drop l.i l.parts) d) (map data_of l.items))
