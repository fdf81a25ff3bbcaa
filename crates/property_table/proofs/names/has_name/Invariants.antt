use Rattle.std.proofs.Common.{◌≡◌, drop, map}
use Rattle.property_table.specs.Names.{has_name}
use Rattle.property_table.proofs.names.has_name.Given as goal

abbrev pub invariant-loop-one : goal.invariant-loop-one
invariant-loop-one l = has_name (map (λ n. n.now) (drop l.one-index l.names)) l.name ≡ has_name (map (λ n. n.now) l.names) l.name
