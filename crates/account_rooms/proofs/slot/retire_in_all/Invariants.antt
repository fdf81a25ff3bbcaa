use Rattle.std.proofs.Common.{◌≡◌, ◌++◌, drop, map, take}
use Rattle.account_rooms.specs.Slots.{retired}
use Rattle.account_rooms.proofs.slot.retire_in_all.Given as goal

abbrev pub invariant-loop-slot : goal.invariant-loop-slot
invariant-loop-slot l = l.slot-items ≡ map (retired l.event) (take l.slot-index l.initial.slot-items) ++ drop l.slot-index l.initial.slot-items
