use Rattle.std.proofs.Common.{◌≡◌, ◌++◌, drop, map, take}
use Rattle.account_rooms.specs.Slots.{kept_slot}
use Rattle.account_rooms.proofs.slot.keep_all.Given as goal

abbrev pub invariant-loop-slot : goal.invariant-loop-slot
invariant-loop-slot l = l.slot-items ≡ map kept_slot (take l.slot-index l.initial.slot-items) ++ drop l.slot-index l.initial.slot-items
