use Rattle.std.proofs.Common.{◌+◌, ◌-◌, ◌≤◌, length}
use Rattle.std.specs.Io.KnownBytes.{Consumes}
use Rattle.io_edge.proofs.source.read_up_to.Given as goal

abbrev pub invariant-loop-piece : goal.invariant-loop-piece
invariant-loop-piece g l = record {
  consumed : Consumes (g.S.Source.shown l.initial.source).left (g.S.Source.shown l.source).left l.bytes.items;
  within : length l.bytes.items ≤ l.most + 1;
  later : (g.S.Source.shown l.initial.source).faults ≤ (g.S.Source.shown l.source).faults;
}

abbrev pub decreases-loop-piece : goal.decreases-loop-piece
decreases-loop-piece g l = l.most + 1 - length l.bytes.items
