use Rattle.std.proofs.Common.{◌≡◌, map}
use Rattle.store_opening.specs.Puts.{slot_by, with_series}
use Rattle.store_opening.proofs.logs.event_slots.Given as goal

abbrev pub invariant-loop-event : goal.invariant-loop-event
invariant-loop-event l = l.slots.items ≡ map (slot_by (with_series l.zones)) l.yielded
