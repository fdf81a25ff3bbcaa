use Rattle.std.proofs.Common.{◌≡◌, ◌++◌, drop, map}
use Rattle.spec_json.specs.TreeData.{pair_of}
use Rattle.property_table.specs.OnePass.{failing_keys}
use Rattle.property_table.proofs.table.failing_keys.Given as goal

abbrev pub invariant-loop-member : goal.invariant-loop-member
invariant-loop-member g l =
    l.names.items ++ failing_keys (g.T.PropertyTable.table l.table) (map pair_of (drop l.member-index l.members)) ≡ failing_keys (g.T.PropertyTable.table l.table) (map pair_of l.members)
