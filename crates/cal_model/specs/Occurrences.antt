-- Occurrences of events, which clients name by synthetic ids (draft JMAP for Calendars).
use Rattle.std.specs.Prelude.{ℕ, ℤ, List, Option, None, option_and_then, option_map}
use Rattle.spec_history.specs.History.{live_object}
use Rattle.spec_history.specs.declared.entry.Change.{Change}
use Rattle.spec_history.specs.declared.entry.Kind.{Kind}
use Rattle.spec_history.specs.declared.entry.Kind.TheVariants.{Calendar, Event}
use Rattle.spec_json.specs.TreeData.{data_of}
use Rattle.spec_json.specs.declared.tree.Tree.{Tree}
use Rattle.spec_json.specs.declared.tree.Tree.TheVariants.{Object}
use Rattle.spec_recurrence.specs.OccurrenceIds.{occurrence_id_in}
use Rattle.spec_recurrence.specs.Recurrence.{occurrence_members}

-- the occurrence of an event with this number and recurrence id
abbrev pub occurrence_of : ℕ → ℤ → Tree → Option Tree
occurrence_of n w event = option_map Object (occurrence_members n w (data_of event))

abbrev pub occurrence_numbered : List Change → ℕ × ℤ → Option Tree
occurrence_numbered cs q = option_and_then (occurrence_of q.0 q.1) (live_object cs Event q.0)

-- the occurrence of a live event that an id names
abbrev pub occurrence_named : List Change → Kind → List ℕ → Option Tree
occurrence_named cs Calendar id = None
occurrence_named cs Event id = option_and_then (occurrence_numbered cs) (occurrence_id_in id)
