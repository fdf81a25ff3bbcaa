use Rattle.std.proofs.Common.{◌≡◌, map}
use Rattle.store_opening.specs.Puts.{slot_by}
use Rattle.store_opening.proofs.logs.calendar_slots.Given as goal

abbrev pub invariant-loop-calendar : goal.invariant-loop-calendar
invariant-loop-calendar l = l.slots.items ≡ map (slot_by (λ t. t)) l.yielded
