use Rattle.std.proofs.Common.{◌≡◌, ◌++◌, drop, map, take}
use Rattle.account_rooms.specs.Slots.{closed}
use Rattle.account_rooms.proofs.slot.close.Given as goal

abbrev pub invariant-loop-slot : goal.invariant-loop-slot
invariant-loop-slot l = l.slot-items ≡ map (closed l.calendar) (take l.slot-index l.initial.slot-items) ++ drop l.slot-index l.initial.slot-items
