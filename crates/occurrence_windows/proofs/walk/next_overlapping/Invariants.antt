use Rattle.std.specs.Prelude.{IfSome}
use Rattle.std.specs.Int.{int_gap}
use Rattle.jiff_core.specs.Calendar.{IsWithin}
use Rattle.jiff_tz.specs.PosixText.{tz_view}
use Rattle.spec_windows.specs.Clocks.{instant_in}
use Rattle.spec_windows.specs.Windows.{IsOverlapping}
use Rattle.occurrence_windows.proofs.Walking.{key, TOP}
use Rattle.occurrence_windows.proofs.Overlapping.{AreLeft, IsOnward}
use Rattle.occurrence_windows.proofs.walk.next_overlapping.Given as goal

abbrev pub invariant-loop-o : goal.invariant-loop-o
invariant-loop-o l = record {
  here : IsWithin 400000000000 l.here;
  seen : IfSome l.seen (IsWithin 400000000000);
  onward : IsOnward l.fn.from l.fn.past l.here l.seen;
  left : AreLeft (IsOverlapping l.series (instant_in (tz_view l.rule)) l.window) l.fn.from l.fn.past l.here l.seen;
}

abbrev pub decreases-loop-o : goal.decreases-loop-o
decreases-loop-o l = int_gap (key l.here l.seen) TOP
