use Rattle.std.proofs.Common.{◌≡◌, ◌++◌, [], drop}
use Rattle.spec_site.specs.TimeZones.{first_bad_zone}
use Rattle.zone_table.proofs.zones.Zones.read.Given as goal

abbrev pub invariant-loop-name : goal.invariant-loop-name
invariant-loop-name l = record {
  zones : l.zones.items ++ drop l.name-index l.list ≡ l.list;
  bad : first_bad_zone l.zones.items (drop l.name-index l.list) ≡ first_bad_zone [] l.list;
}
