use Rattle.std.proofs.Common.{◌≡◌, ◌+◌, ◌-◌, ◌≤◌, length, take}
use Rattle.spec_http.specs.Heads.{head_end, unended}
use Rattle.http_edge.specs.Reading.{AskedWhile, Took}
use Rattle.http_edge.specs.Searches.{IsSearched}
use Rattle.spec_http.specs.declared.limits.TheConstants.{PIECE}
use Rattle.http_edge.proofs.next.find_head.Given as goal

abbrev pub invariant-loop-size : goal.invariant-loop-size
invariant-loop-size g l = record {
  took : Took (g.S.Source.shown l.initial.source) (g.S.Source.shown l.source) l.initial.kept l.kept;
  asked : AskedWhile (λ bytes. head_end bytes ≡ unended) PIECE (g.S.Source.shown l.initial.source) (g.S.Source.shown l.source) l.initial.kept l.kept;
  within : l.searched ≤ length l.kept;
  few : l.searched ≤ 16384;
  searched : IsSearched (take l.searched l.kept) l.state;
  later : l.initial.looked ≤ l.looked;
  once : l.looked ≤ l.initial.looked + l.searched;
}

abbrev pub decreases-loop-size : goal.decreases-loop-size
decreases-loop-size g l = 16384 - length l.kept
