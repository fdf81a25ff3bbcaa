-- A store while it is opened.
use Rattle.std.specs.Prelude.{ℕ, List, min}
use Rattle.account_store.specs.declared.kept.KeptEvent.{KeptEvent}
use Rattle.account_store.specs.declared.opening.OpeningStore.{OpeningStore}
use Rattle.object_log.specs.ObjectLog.{puts, room}
use Rattle.object_log.specs.declared.put.Put.{Put}
use Rattle.spec_history.specs.declared.entry.Entry.{Entry}
use Rattle.spec_history.specs.declared.entry.Kind.{Kind}
use Rattle.spec_history.specs.declared.entry.Kind.TheVariants.{Calendar, Event}

-- all entries so far, of both kinds
abbrev pub opening_entries : OpeningStore → List Entry
opening_entries s = s.told.items

-- all events that were put or removed so far, with their series
abbrev pub opening_puts : OpeningStore → List (Put KeptEvent)
opening_puts s = puts s.events

-- the state of a kind that it goes on from
abbrev pub opening_floor : OpeningStore → Kind → ℕ
opening_floor s Calendar = s.calendars_from
opening_floor s Event = s.events_from

-- how many more entries it takes without memory, at least
abbrev pub opening_spare : OpeningStore → ℕ
opening_spare s = min (room s.calendars) (room s.events)
