-- Resource calendars: those whose events book a resource, as a room or a vehicle, on the wall clock of its time zone.
use Rattle.std.specs.Prelude.{ℕ, List, Bool, Option, codes, filter, is_some, option_and_then}
use Rattle.spec_events.specs.Events.{names_calendar}
use Rattle.spec_history.specs.History.{ids_at, live_object}
use Rattle.spec_history.specs.declared.entry.Change.{Change}
use Rattle.spec_history.specs.declared.entry.Kind.TheVariants.{Calendar}
use Rattle.spec_json.specs.Data.{Data}
use Rattle.spec_json.specs.Parts.{text_at}
use Rattle.spec_json.specs.TreeData.{data_of}
use Rattle.spec_json.specs.declared.tree.Tree.{Tree}

-- the time zone of the resource that a calendar is of, none where it is of no resource
abbrev pub zone_of_resource : Tree → Option (List ℕ)
zone_of_resource t = text_at (codes "resourceZone") (data_of t)

-- the same of the live calendar of a number
abbrev pub resource_zone : List Change → ℕ → Option (List ℕ)
resource_zone cs n = option_and_then zone_of_resource (live_object cs Calendar n)

abbrev pub is_resource : List Change → ℕ → Bool
is_resource cs n = is_some (resource_zone cs n)

-- the live resource calendars, in order of creation
abbrev pub resources_at : List Change → List ℕ
resources_at cs = filter (is_resource cs) (ids_at cs Calendar)

-- those of them that an event is in
abbrev pub resources_of : List Change → Data → List ℕ
resources_of cs event = filter (λ n. names_calendar n event) (resources_at cs)
