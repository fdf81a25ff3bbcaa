use Rattle.std.proofs.Common.{◌≡◌, map}
use Rattle.spec_json.specs.TreeData.{pair_of}
use Rattle.property_table.specs.Table.{given}
use Rattle.object_outcomes.proofs.event.given_members.Given as goal

abbrev pub invariant-loop-member : goal.invariant-loop-member
invariant-loop-member l = map pair_of l.given.items ≡ given (map pair_of l.yielded)
