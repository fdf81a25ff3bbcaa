use Rattle.std.proofs.Common.{◌-◌, ◌<◌, length}
use Rattle.http_edge.specs.Reading.{AskedWhile, Took}
use Rattle.spec_http.specs.declared.limits.TheConstants.{PIECE}
use Rattle.http_edge.proofs.next.take_until.Given as goal

abbrev pub invariant-loop-kept : goal.invariant-loop-kept
invariant-loop-kept g l = record {
  took : Took (g.S.Source.shown l.initial.source) (g.S.Source.shown l.source) l.initial.kept l.kept;
  asked : AskedWhile (λ bytes. length bytes < l.wanted) PIECE (g.S.Source.shown l.initial.source) (g.S.Source.shown l.source) l.initial.kept l.kept;
}

abbrev pub decreases-loop-kept : goal.decreases-loop-kept
decreases-loop-kept g l = l.wanted - length l.kept
