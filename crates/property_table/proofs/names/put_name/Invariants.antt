use Rattle.std.proofs.Common.{◌≡◌, ◌++◌, ◌≤◌, ◌-◌, take, drop, length}
use Rattle.property_table.specs.Names.{put_name}
use Rattle.property_table.proofs.names.put_name.Given as goal

abbrev pub invariant-loop-i : goal.invariant-loop-i
invariant-loop-i l = record {
  place : l.i ≤ length l.names.items;
  rest : take l.i l.names.items ++ put_name l.name (drop l.i l.names.items) ≡ put_name l.name l.names.items;
}

abbrev pub decreases-loop-i : goal.decreases-loop-i
decreases-loop-i l = length l.names.items - l.i
