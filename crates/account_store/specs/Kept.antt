-- Events as they are kept.
use Rattle.std.specs.Prelude.{List, [], ◌∷◌, Option, option_map, if◌then◌else◌}
use Rattle.account_store.specs.declared.kept.KeptEvent.{KeptEvent}
use Rattle.object_log.specs.declared.put.Put.{Put}
use Rattle.spec_history.specs.History.{is_kind}
use Rattle.spec_sizes.specs.Sizes.{size_of_object}
use Rattle.spec_history.specs.declared.entry.Change.{Change}
use Rattle.spec_history.specs.declared.entry.Kind.TheVariants.{Event}
use Rattle.spec_json.specs.declared.tree.Tree.{Tree}
use Rattle.spec_series.specs.declared.series.Series.{Series}

abbrev pub kept_event : Option Tree → Option Series → Option KeptEvent
kept_event object series = option_map (λ t. record { object = t; series = series }) object

-- what a change puts under the number of an event, where it is of one
abbrev pub event_put : Change → Option Series → List (Put KeptEvent)
event_put c series = if is_kind Event c.kind then (record { id = c.id; object = kept_event c.object series; size = size_of_object c.object }) ∷ [] else []
