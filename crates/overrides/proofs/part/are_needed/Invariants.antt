use Rattle.std.proofs.Common.{◌≡◌, drop}
use Rattle.std.specs.List.{list_all}
use Rattle.overrides.specs.Parts.{is_needed}
use Rattle.overrides.proofs.part.are_needed.Given as goal

abbrev pub invariant-loop-name : goal.invariant-loop-name
invariant-loop-name l = list_all (is_needed l.firsts) (drop l.name-index l.names) ≡ list_all (is_needed l.firsts) l.names
