use Rattle.std.proofs.Common.{◌≡◌, ◌≤◌, ◌+◌, length, take}
use Rattle.http_edge.specs.Searches.{IsSearched}
use Rattle.http_edge.proofs.search.go_on.Given as goal

abbrev pub invariant-loop-i : goal.invariant-loop-i
invariant-loop-i l = record {
  within : l.i ≤ length l.bytes;
  searched : IsSearched (take l.i l.bytes) l.state;
  once : l.looked + l.from ≡ l.initial.looked + l.i;
}
