use Rattle.std.proofs.Common.{◌≡◌, ◌≤◌, ◌-◌, drop, map, length}
use Rattle.spec_json.specs.TreeData.{pair_of}
use Rattle.result_refs.specs.Walk.{from_key}
use Rattle.result_refs.proofs.forms.from_key.Given as goal

abbrev pub invariant-loop-i : goal.invariant-loop-i
invariant-loop-i l = record {
  place : l.i ≤ length l.members;
  rest : from_key l.key (map pair_of (drop l.i l.members)) ≡ from_key l.key (map pair_of l.members);
}

abbrev pub decreases-loop-i : goal.decreases-loop-i
decreases-loop-i l = length l.members - l.i
