use Rattle.std.proofs.Common.{◌-◌, ◌≤◌, length}
use Rattle.line_edge.proofs.LineLemmas.{Came}
use Rattle.line_edge.specs.Lines.{HasNoFeed}
use Rattle.line_edge.proofs.next.next_line.Given as goal

abbrev pub invariant-loop-line : goal.invariant-loop-line
invariant-loop-line g l = record {
  moved : Came (g.S.Source.shown l.initial.source) (g.S.Source.shown l.source) l.initial.rest l.rest l.line.items;
  unbroken : HasNoFeed l.line.items;
  short : length l.line.items ≤ l.most;
}

abbrev pub decreases-loop-line : goal.decreases-loop-line
decreases-loop-line g l = l.most - length l.line.items
