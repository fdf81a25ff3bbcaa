-- The loop of `number_list`: the trees so far are those of the items so far.
use Rattle.std.proofs.Common.{◌≡◌, map, take}
use Rattle.spec_json.specs.Data.{whole}
use Rattle.spec_json.specs.TreeData.{data_of}
use Rattle.rule_read.proofs.write.number_list.Given as goal

abbrev pub invariant-loop-number : goal.invariant-loop-number
invariant-loop-number l = map data_of l.items.items ≡ map whole (take l.number-index l.numbers)
