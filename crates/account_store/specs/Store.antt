-- What a store shows.
use Rattle.std.specs.Prelude.{ℕ, List, min}
use Rattle.account_store.specs.declared.kept.KeptEvent.{KeptEvent}
use Rattle.account_store.specs.declared.store.Store.{Store}
use Rattle.object_log.specs.ObjectLog.{puts, room}
use Rattle.object_log.specs.declared.put.Put.{Put}
use Rattle.spec_history.specs.declared.entry.Entry.{Entry}

-- all entries that ever were, of both kinds
abbrev pub entries : Store → List Entry
entries s = s.told.items

-- all events that were ever put or removed, with their series
abbrev pub event_puts : Store → List (Put KeptEvent)
event_puts s = puts s.events

-- how many more entries it takes without memory, at least
abbrev pub spare : Store → ℕ
spare s = min (room s.calendars) (room s.events)
