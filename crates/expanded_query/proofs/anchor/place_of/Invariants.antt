use Rattle.std.proofs.Common.{◌≡◌, drop, map, position}
use Rattle.std.specs.List.{position_from}
use Rattle.std.specs.Str.{bytes_eq}
use Rattle.expanded_query.specs.Founds.{id_at}
use Rattle.expanded_query.proofs.anchor.place_of.Given as goal

abbrev pub invariant-loop-place : goal.invariant-loop-place
invariant-loop-place l = position_from (bytes_eq l.anchor) l.place (map id_at (drop l.place l.results)) ≡ position (bytes_eq l.anchor) (map id_at l.results)
