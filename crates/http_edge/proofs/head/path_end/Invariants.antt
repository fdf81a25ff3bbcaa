use Rattle.std.proofs.Common.{◌≡◌, ◌++◌, take, drop}
use Rattle.spec_http.specs.Messages.{path_of}
use Rattle.http_edge.proofs.head.path_end.Given as goal

abbrev pub invariant-loop-i : goal.invariant-loop-i
invariant-loop-i l = take l.i l.target ++ path_of (drop l.i l.target) ≡ path_of l.target
