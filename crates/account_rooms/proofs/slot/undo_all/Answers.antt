use Rattle.std.proofs.Common.{arith}
use Rattle.account_rooms.proofs.Slots.{one_changed}
use Rattle.account_rooms.specs.Slots.{undone}
use Rattle.account_rooms.proofs.slot.undo_all.Goals as goal

pub loop-slot-preserved : goal.loop-slot-preserved
loop-slot-preserved c =
    one_changed undone c.loop-slot.slot-items c.deref_mut-slot-items.result.now c.loop-slot.slot-index c.slot-item.result c.undo.new.self
    (omega (arith, c.loop-slot-test.true, c.loop-slot.auto.slot-items)) c.loop-slot.invariant c.undo.ensures
