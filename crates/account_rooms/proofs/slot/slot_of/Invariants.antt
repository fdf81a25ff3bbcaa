use Rattle.std.proofs.Common.{◌≡◌, drop}
use Rattle.account_rooms.specs.Rooms.{bookings_in, has_room}
use Rattle.account_rooms.specs.Slots.{rooms_now}
use Rattle.account_rooms.proofs.slot.slot_of.Given as goal

abbrev pub invariant-loop-slot : goal.invariant-loop-slot
invariant-loop-slot l = record {
  there : has_room l.calendar (rooms_now (drop l.slot-index l.slots)) ≡ has_room l.calendar (rooms_now l.slots);
  bookings : bookings_in l.calendar (rooms_now (drop l.slot-index l.slots)) ≡ bookings_in l.calendar (rooms_now l.slots);
}
