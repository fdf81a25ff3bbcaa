use Rattle.std.proofs.Common.{◌≡◌, drop}
use Rattle.std.specs.List.{list_any}
use Rattle.property_table.specs.Names.{has_name}
use Rattle.spec_recurrence.specs.Overrides.{fixed_properties}
use Rattle.overrides.proofs.fixed.has_fixed.Given as goal

abbrev pub invariant-loop-first : goal.invariant-loop-first
invariant-loop-first l = list_any (has_name fixed_properties) (drop l.first-index l.firsts) ≡ list_any (has_name fixed_properties) l.firsts
