-- An event as its overrides are tested by it.
use Rattle.std.specs.Prelude.{◌≡◌, List, []}
use Rattle.spec_events.specs.Events.{bad_event_properties}
use Rattle.spec_json.specs.Parts.{members_in}
use Rattle.spec_json.specs.TreeData.{data_of}
use Rattle.spec_site.specs.TimeZones.{ZoneText}
use Rattle.overrides.specs.Parts.{part_with}
use Rattle.overrides.specs.declared.alone.Alone.{Alone}

-- what is bad in the event, and its part for a patch that changes nothing
abbrev pub IsTested : Alone → List ZoneText → Type 0
IsTested alone zones = (alone.bad.items ≡ bad_event_properties zones (data_of alone.event)) × (alone.needed ≡ part_with [] (members_in (data_of alone.event)))
