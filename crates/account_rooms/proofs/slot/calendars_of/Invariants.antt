use Rattle.std.proofs.Common.{◌≡◌, map, take}
use Rattle.account_rooms.specs.Slots.{rooms_now}
use Rattle.account_rooms.proofs.slot.calendars_of.Given as goal

abbrev pub invariant-loop-slot : goal.invariant-loop-slot
invariant-loop-slot l = l.calendars.items ≡ map (λ r. r.calendar) (rooms_now (take l.slot-index l.slots))
