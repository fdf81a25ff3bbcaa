-- The loop of `find`: the quarters so far were tried.
use Rattle.std.proofs.Common.{◌≤ℤ◌}
use Rattle.std.specs.Int.{int_gap}
use Rattle.slot_find.specs.Steps.{AreTried}
use Rattle.spec_json.specs.TreeData.{data_of}
use Rattle.spec_slots.specs.Quarters.{quarters}
use Rattle.spec_slots.specs.Wishes.{wish_clash}
use Rattle.slot_find.proofs.look.find.Given as goal

abbrev pub invariant-days : goal.invariant-days
invariant-days l = record {
  low : l.fn.from ≤ℤ l.at;
  high : l.at ≤ℤ l.to;
  tried : AreTried (wish_clash l.room.bookings l.wish.length (data_of l.wish.rules)) (quarters l.fn.from l.at) l.tried.items;
}

abbrev pub decreases-days : goal.decreases-days
decreases-days l = int_gap l.at l.to
