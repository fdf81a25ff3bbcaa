use Rattle.std.proofs.Common.{◌≡◌, ◌++◌, drop, map}
use Rattle.spec_json.specs.TreeData.{data_of}
use Rattle.session_doc.specs.LeadingZones.{leading_zones}
use Rattle.session_doc.proofs.zones.leading_zones.Given as goal

abbrev pub invariant-loop-item : goal.invariant-loop-item
invariant-loop-item l = l.zones.items ++ leading_zones (map data_of (drop l.item-index l.items)) ≡ leading_zones (map data_of l.items)
