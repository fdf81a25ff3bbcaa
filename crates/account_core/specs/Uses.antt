-- Which calendars live events are in.
use Rattle.std.specs.Prelude.{◌≡◌, ℕ, List, Bool, false, Option}
use Rattle.std.specs.BTreeSet.{BTreeSet, contains}
use Rattle.std.specs.List.{list_any}
use Rattle.std.specs.Option.{option_map_or}
use Rattle.std.specs.Ordering.{nat_cmp}
use Rattle.cal_model.specs.EventObject.{has_event}
use Rattle.spec_events.specs.Events.{names_calendar}
use Rattle.spec_history.specs.History.{is_kind}
use Rattle.spec_history.specs.declared.entry.Change.{Change}
use Rattle.spec_history.specs.declared.entry.Kind.TheVariants.{Event}
use Rattle.spec_json.specs.TreeData.{data_of}
use Rattle.spec_json.specs.declared.tree.Tree.{Tree}

-- one of the changes is of an event
abbrev pub has_staged_event : List Change → Bool
has_staged_event cs = list_any (λ c. is_kind Event c.kind) cs

-- there is an event, and it is in the calendar
abbrev pub is_object_in_calendar : ℕ → Option Tree → Bool
is_object_in_calendar calendar o = option_map_or (λ t. names_calendar calendar (data_of t)) o false

-- the set has the numbers of the calendars that live events are in, and no others
abbrev pub AreInUse : List Change → BTreeSet ℕ → Type 0
AreInUse cs in_use = (calendar : ℕ) → contains nat_cmp in_use calendar ≡ has_event cs calendar
