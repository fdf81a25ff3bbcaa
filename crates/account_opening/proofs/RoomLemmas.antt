-- What rooms tell of resource calendars.
use Rattle.std.proofs.Common.{◌≡◌, ◌∙◌, ℕ, List, map, true, ap}
use Rattle.account_rooms.proofs.Following.{bookings_of_room, calendars_of_rooms, room_of_resource}
use Rattle.account_rooms.specs.Rooms.{AreRooms, BookedRoom, bookings_in, has_room}
use Rattle.spec_bookings.specs.BookedResources.{bookings_of}
use Rattle.spec_bookings.specs.Resources.{is_resource, resources_at}
use Rattle.spec_history.specs.declared.entry.Change.{Change}
use Rattle.spec_site.specs.TimeZones.{ZoneText}

module _ (zones : List ZoneText) (cs : List Change) (rs : List BookedRoom) (h : AreRooms zones cs rs) where
  pub room_there : (n : ℕ) → is_resource cs n ≡ true → has_room n rs ≡ true
  room_there n resource = ap (has_room n) h.rooms ∙ room_of_resource zones cs n resource

  pub room_bookings : (n : ℕ) → is_resource cs n ≡ true → bookings_in n rs ≡ bookings_of zones cs n
  room_bookings n resource = ap (bookings_in n) h.rooms ∙ bookings_of_room zones cs n resource

  pub rooms_listed : map (λ (r : BookedRoom). r.calendar) rs ≡ resources_at cs
  rooms_listed = ap (map (λ (r : BookedRoom). r.calendar)) h.rooms ∙ calendars_of_rooms zones cs (resources_at cs)
