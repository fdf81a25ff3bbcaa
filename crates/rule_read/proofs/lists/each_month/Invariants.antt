-- The loop of `each_month`: the items so far stand in the new list.
use Rattle.std.proofs.Common.{◌≡◌, ◌++◌, drop, map, option_map}
use Rattle.spec_json.specs.Parts.{all_some}
use Rattle.spec_json.specs.TreeData.{data_of}
use Rattle.spec_series.specs.RuleObjects.{month_in}
use Rattle.rule_read.proofs.lists.each_month.Given as goal

abbrev pub invariant-loop-item : goal.invariant-loop-item
invariant-loop-item l =
    all_some month_in (map data_of l.items) ≡ option_map (λ xs. l.months.items ++ xs) (all_some month_in (map data_of (drop l.item-index l.items)))
