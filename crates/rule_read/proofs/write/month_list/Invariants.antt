-- The loop of `month_list`: the trees so far are those of the items so far.
use Rattle.std.proofs.Common.{◌≡◌, map, take}
use Rattle.spec_series.specs.RuleObjects.{month_data}
use Rattle.spec_json.specs.TreeData.{data_of}
use Rattle.rule_read.proofs.write.month_list.Given as goal

abbrev pub invariant-loop-month : goal.invariant-loop-month
invariant-loop-month l = map data_of l.items.items ≡ map month_data (take l.month-index l.months)
