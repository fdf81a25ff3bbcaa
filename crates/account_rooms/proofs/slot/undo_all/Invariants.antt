use Rattle.std.proofs.Common.{◌≡◌, ◌++◌, drop, map, take}
use Rattle.account_rooms.specs.Slots.{undone}
use Rattle.account_rooms.proofs.slot.undo_all.Given as goal

abbrev pub invariant-loop-slot : goal.invariant-loop-slot
invariant-loop-slot l = l.slot-items ≡ map undone (take l.slot-index l.initial.slot-items) ++ drop l.slot-index l.initial.slot-items
