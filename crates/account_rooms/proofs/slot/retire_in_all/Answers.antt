use Rattle.std.proofs.Common.{arith}
use Rattle.account_rooms.proofs.Slots.{one_changed}
use Rattle.account_rooms.specs.Slots.{retired}
use Rattle.account_rooms.proofs.slot.retire_in_all.Goals as goal

pub loop-slot-preserved : goal.loop-slot-preserved
loop-slot-preserved c =
    one_changed (retired c.args.event) c.loop-slot.slot-items c.deref_mut-slot-items.result.now c.loop-slot.slot-index c.slot-item.result c.retire.new.self
    (omega (arith, c.loop-slot-test.true, c.loop-slot.auto.slot-items)) c.loop-slot.invariant c.retire.ensures
