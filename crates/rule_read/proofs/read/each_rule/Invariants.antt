-- The loop of `each_rule`: the rules so far stand in the new list.
use Rattle.std.proofs.Common.{◌≡◌, ◌++◌, drop, length, map, option_map}
use Rattle.spec_json.specs.Parts.{all_some}
use Rattle.spec_json.specs.TreeData.{data_of}
use Rattle.spec_series.specs.RuleObjects.{parts_of, rule_in}
use Rattle.rule_read.proofs.read.each_rule.Given as goal

abbrev pub invariant-loop-item : goal.invariant-loop-item
invariant-loop-item l = record {
  value : all_some (rule_in l.day) (map data_of l.items) ≡ option_map (λ xs. map parts_of l.rules.items ++ xs) (all_some (rule_in l.day) (map data_of (drop l.item-index l.items)));
  count : length l.rules.items ≡ l.item-index;
}
