-- The loop of `try_quarters`: the quarters so far were tried, and the series is the one that was given but for its start.
use Rattle.std.proofs.Common.{◌≡◌, ◌≤ℤ◌, ◌++◌, ℤ, List, true}
use Rattle.std.specs.Int.{int_gap, int_min}
use Rattle.slot_find.specs.Steps.{AreTried, IsMoved}
use Rattle.spec_json.specs.TreeData.{data_of}
use Rattle.spec_slots.specs.Quarters.{is_quarter, quarters}
use Rattle.spec_slots.specs.Wishes.{wish_clash}
use Rattle.slot_find.proofs.day.try_quarters.Given as goal

abbrev pub invariant-quarters : goal.invariant-quarters
invariant-quarters l = record {
  quarter : is_quarter l.at ≡ true;
  low : l.fn.series.start ≤ℤ l.at;
  moved : IsMoved l.fn.series l.proposed;
  looked : (xs : List ℤ) → AreTried (wish_clash l.room.bookings l.wish.length (data_of l.wish.rules)) xs l.fn.tried.items → AreTried (wish_clash l.room.bookings l.wish.length (data_of l.wish.rules)) (xs ++ quarters l.fn.series.start (int_min l.at l.end)) l.tried.items;
}

abbrev pub decreases-quarters : goal.decreases-quarters
decreases-quarters l = int_gap l.at l.end
