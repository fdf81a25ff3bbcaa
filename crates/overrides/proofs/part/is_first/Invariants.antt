use Rattle.std.proofs.Common.{◌≡◌, drop}
use Rattle.property_table.specs.Names.{has_name}
use Rattle.overrides.proofs.part.is_first.Given as goal

abbrev pub invariant-loop-first : goal.invariant-loop-first
invariant-loop-first l = has_name (drop l.first-index l.firsts) l.name ≡ has_name l.firsts l.name
