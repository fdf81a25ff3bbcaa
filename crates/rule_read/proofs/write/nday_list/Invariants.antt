-- The loop of `nday_list`: the trees so far are those of the items so far.
use Rattle.std.proofs.Common.{◌≡◌, map, take}
use Rattle.spec_series.specs.RuleObjects.{nday_data}
use Rattle.spec_json.specs.TreeData.{data_of}
use Rattle.rule_read.proofs.write.nday_list.Given as goal

abbrev pub invariant-loop-day : goal.invariant-loop-day
invariant-loop-day l = map data_of l.items.items ≡ map nday_data (take l.day-index l.days)
