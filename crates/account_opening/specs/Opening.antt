-- What an account keeps beside its entries.
use Rattle.std.specs.Prelude.{◌≡◌, ◌≤◌, ℕ, List, [], Some, length, true, ⊤}
use Rattle.account_opening.specs.declared.open.Opened.{Opened}
use Rattle.account_opening.specs.declared.open.OpeningError.{OpeningError}
use Rattle.account_opening.specs.declared.open.OpeningError.TheVariants.{BadObject, NoMemory}
use Rattle.account_rooms.specs.Rooms.{AreRooms}
use Rattle.account_store.specs.Store.{entries, event_puts}
use Rattle.cal_model.specs.GoesOn.{GoesOn}
use Rattle.cal_model.specs.Quota.{live_objects, live_size}
use Rattle.cal_model.specs.SoundObjects.{unsound_object}
use Rattle.cal_model.specs.declared.limits.TheConstants.{MAX_CHANGES, MAX_OBJECT_BYTES, MAX_OBJECTS}
use Rattle.event_store.specs.ReadSeries.{AreRead}
use Rattle.spec_bookings.specs.BookedResources.{bookings_of}
use Rattle.spec_bookings.specs.Free.{IsFree}
use Rattle.spec_bookings.specs.Resources.{is_resource, resources_at}
use Rattle.spec_bookings.specs.declared.limits.TheConstants.{MAX_BOOKINGS, MAX_RESOURCES}
use Rattle.spec_history.specs.History.{changes_of}
use Rattle.spec_history.specs.declared.entry.Change.{Change}
use Rattle.spec_history.specs.declared.entry.Entry.{Entry}
use Rattle.spec_site.specs.TimeZones.{ZoneText}
use Rattle.spec_snapshots.specs.Numbered.{are_numbered}

-- this is kept beside these entries, from which an account goes on
pub record IsOpenedFrom (zones : List ZoneText) (es : List Entry) (o : Opened) : Type 0 where
  pub entries : entries o.store ≡ es
  pub read : AreRead zones (event_puts o.store)
  pub objects : o.objects ≡ length (live_objects (changes_of es))
  pub size : o.size ≡ live_size (changes_of es)
  pub rooms : AreRooms zones (changes_of es) o.rooms.rooms
  pub kept : o.rooms.kept ≡ o.rooms.rooms
  pub goes_on : GoesOn zones (changes_of es)

-- an object is told of where no account goes on from these changes; want of memory tells nothing of them
abbrev pub IsRefusal : List ZoneText → List Change → OpeningError → Type 0
IsRefusal zones cs (BadObject kind id) = GoesOn zones cs → ⊥
IsRefusal zones cs NoMemory = ⊤

-- an account would go on from these changes, were it not for objects that aren't sound
pub record FitsButForObjects (zones : List ZoneText) (cs : List Change) : Type 0 where
  pub numbered : are_numbered [] cs ≡ true
  pub free : (calendar : ℕ) → is_resource cs calendar ≡ true → IsFree (bookings_of zones cs calendar)
  pub few : (calendar : ℕ) → is_resource cs calendar ≡ true → length (bookings_of zones cs calendar) ≤ MAX_BOOKINGS
  pub resources : length (resources_at cs) ≤ MAX_RESOURCES
  pub changes : length cs ≤ MAX_CHANGES
  pub live : length (live_objects cs) ≤ MAX_OBJECTS
  pub size : live_size cs ≤ MAX_OBJECT_BYTES

-- where nothing else stands against it, the object that is told of is the first that isn't sound
abbrev pub NamesUnsound : List ZoneText → List Change → OpeningError → Type 0
NamesUnsound zones cs (BadObject kind id) = FitsButForObjects zones cs → unsound_object zones cs ≡ Some (kind, id)
NamesUnsound zones cs NoMemory = ⊤
