use Rattle.std.proofs.Common.{◌≡◌, ◌++◌, ◌-◌, drop, map, take, vec_len}
use Rattle.account_rooms.specs.Slots.{booked, rooms_kept}
use Rattle.spec_json.specs.TreeData.{data_of}
use Rattle.account_rooms.proofs.slot.book_in_all.Given as goal

abbrev pub invariant-loop-i : goal.invariant-loop-i
invariant-loop-i l = record {
  done : l.slots.items ≡ map (booked l.number (data_of l.event) l.series) (take l.i l.initial.slots.items) ++ drop l.i l.initial.slots.items;
  kept : rooms_kept l.slots.items ≡ rooms_kept l.initial.slots.items;
  len : vec_len l.slots ≡ vec_len l.initial.slots;
}

abbrev pub decreases-loop-i : goal.decreases-loop-i
decreases-loop-i l = vec_len l.slots - l.i
