-- Histories from which an account goes on.
use Rattle.std.specs.Prelude.{◌≡◌, ◌≤◌, ℕ, List, [], None, length, true}
use Rattle.cal_model.specs.Quota.{live_objects, live_size}
use Rattle.cal_model.specs.SoundObjects.{unsound_object}
use Rattle.cal_model.specs.declared.limits.TheConstants.{MAX_CHANGES, MAX_OBJECT_BYTES, MAX_OBJECTS}
use Rattle.spec_bookings.specs.BookedResources.{bookings_of}
use Rattle.spec_bookings.specs.Free.{IsFree}
use Rattle.spec_bookings.specs.Resources.{is_resource, resources_at}
use Rattle.spec_bookings.specs.declared.limits.TheConstants.{MAX_BOOKINGS, MAX_RESOURCES}
use Rattle.spec_history.specs.declared.entry.Change.{Change}
use Rattle.spec_site.specs.TimeZones.{ZoneText}
use Rattle.spec_snapshots.specs.Numbered.{are_numbered}

-- An account goes on from these changes: they gave the numbers of objects in order, what is live is sound and within the quota, and no second of a resource is
-- covered twice, which has no more bookings than it may have. What was live before is judged by nothing.
pub record GoesOn (zones : List ZoneText) (cs : List Change) : Type 0 where
  pub numbered : are_numbered [] cs ≡ true
  pub objects : unsound_object zones cs ≡ None
  pub free : (calendar : ℕ) → is_resource cs calendar ≡ true → IsFree (bookings_of zones cs calendar)
  pub few : (calendar : ℕ) → is_resource cs calendar ≡ true → length (bookings_of zones cs calendar) ≤ MAX_BOOKINGS
  pub resources : length (resources_at cs) ≤ MAX_RESOURCES
  pub changes : length cs ≤ MAX_CHANGES
  pub live : length (live_objects cs) ≤ MAX_OBJECTS
  pub size : live_size cs ≤ MAX_OBJECT_BYTES
