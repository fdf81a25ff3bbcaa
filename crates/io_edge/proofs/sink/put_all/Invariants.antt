use Rattle.std.proofs.Common.{◌-◌, ◌≤◌, length, take}
use Rattle.io_edge.specs.Outside.{Grows}
use Rattle.io_edge.proofs.sink.put_all.Given as goal

abbrev pub invariant-loop-given : goal.invariant-loop-given
invariant-loop-given g l = record {
  within : l.given ≤ length l.bytes;
  held : Grows (g.K.Sink.shown l.initial.sink).holds (g.K.Sink.shown l.sink).holds (take l.given l.bytes);
  later : (g.K.Sink.shown l.initial.sink).faults ≤ (g.K.Sink.shown l.sink).faults;
}

abbrev pub decreases-loop-given : goal.decreases-loop-given
decreases-loop-given g l = length l.bytes - l.given
