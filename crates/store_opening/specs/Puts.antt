-- What changes put into a log whose objects are made of theirs.
use Rattle.std.specs.Prelude.{ℕ, ◌-◌, List, Some, length, map, option_map, take}
use Rattle.account_store.specs.declared.kept.KeptEvent.{KeptEvent}
use Rattle.object_log.specs.declared.put.Put.{Put}
use Rattle.object_log.specs.declared.slots.IdSlot.{IdSlot}
use Rattle.spec_history.specs.declared.entry.Change.{Change}
use Rattle.spec_history.specs.declared.entry.Entry.{Entry}
use Rattle.spec_history.specs.declared.entry.Kind.{Kind}
use Rattle.spec_json.specs.TreeData.{data_of}
use Rattle.spec_json.specs.declared.tree.Tree.{Tree}
use Rattle.spec_recurrence.specs.SeriesOf.{series_in}
use Rattle.spec_site.specs.TimeZones.{ZoneText}
use Rattle.spec_sizes.specs.Sizes.{of_kind, size_of_object}
use Rattle.spec_snapshots.specs.declared.kept.LiveObject.{LiveObject}

-- an event with the series that is read of it
abbrev pub with_series : List ZoneText → Tree → KeptEvent
with_series zones t = record { object = t; series = series_in zones (data_of t) }

module _ {T : Type 0} (made : Tree → T) where
  abbrev pub put_by : Change → Put T
  put_by c = record { id = c.id; object = option_map made c.object; size = size_of_object c.object }

  -- what the changes of a kind put
  abbrev pub puts_by : Kind → List Change → List (Put T)
  puts_by kind cs = map put_by (of_kind kind cs)

  abbrev pub slot_by : LiveObject → IdSlot T
  slot_by l = record { id = l.id; object = Some (made l.object) }

-- the first entries of a history, where so many lie behind them
abbrev pub in_front : ℕ → List Entry → List Entry
in_front n es = take (length es - n) es
