use Rattle.std.proofs.Common.{◌≡◌, drop, false, map}
use Rattle.spec_json.specs.TreeData.{data_of}
use Rattle.ws_serve.proofs.Switching.{named_from}
use Rattle.ws_serve.proofs.switch.types_named.Given as goal

abbrev pub invariant-loop-name : goal.invariant-loop-name
invariant-loop-name l = named_from false false (map data_of l.names) ≡ named_from l.calendars l.events (map data_of (drop l.name-index l.names))
