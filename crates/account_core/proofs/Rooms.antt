-- The rooms of a ledger after a step.
use Rattle.std.proofs.Common.{◌≡◌, ℕ, List, [], ◌∷◌, ◌++◌, Bool, Bor, IfNone, IfSome, None, Option, Some, ap, append-nil, append_assoc, false, map, refl, subst, sym, true, ◌∙◌}
use Rattle.std.proofs.lemmas.Option.{IfSome_then}
use Rattle.account_rooms.proofs.Following.{bookings_of_room, calendars_of_rooms, resource_of_room, room_of_resource, rooms_more}
use Rattle.account_rooms.specs.RoomChanges.{rooms_after}
use Rattle.account_rooms.specs.Rooms.{AreRooms, BookedRoom, bookings_in, has_room}
use Rattle.cal_model.specs.Fits.{IsFit}
use Rattle.spec_history.specs.History.{changes_of, ids_at, next_number}
use Rattle.spec_history.specs.Pages.{is_in}
use Rattle.spec_history.specs.declared.entry.Change.{Change}
use Rattle.spec_history.specs.declared.entry.Entry.{Entry}
use Rattle.spec_history.specs.declared.entry.Kind.TheVariants.{Calendar}
use Rattle.spec_bookings.specs.BookedResources.{bookings_of}
use Rattle.spec_bookings.specs.Resources.{is_resource, resources_at}
use Rattle.spec_bookings.specs.SeriesPut.{series_put}
use Rattle.resource_book.specs.RoomView.{RoomView}
use Rattle.spec_site.specs.TimeZones.{ZoneText}

-- where nothing is staged
pub none_staged : (zones : List ZoneText) (cs staged : List Change) (rs qs : List BookedRoom) → AreRooms zones cs rs → staged ≡ [] → qs ≡ rs → AreRooms zones (cs ++ staged) qs
none_staged zones cs staged rs qs h none same = subst (AreRooms zones (cs ++ staged)) (sym same) (subst (λ ds. AreRooms zones ds rs) (sym (ap (λ ds. cs ++ ds) none ∙ append-nil cs)) h)

pub same_rooms : (zones : List ZoneText) (cs ds : List Change) (rs qs : List BookedRoom) → AreRooms zones cs rs → ds ≡ cs → qs ≡ rs → AreRooms zones ds qs
same_rooms zones cs ds rs qs h same_changes same = subst (AreRooms zones ds) (sym same) (subst (λ es. AreRooms zones es rs) (sym same_changes) h)

-- one change more is staged
pub one_staged : (zones : List ZoneText) (cs staged more : List Change) (c : Change) (rs qs : List BookedRoom) → AreRooms zones (cs ++ staged) rs → IsFit zones (cs ++ staged) c
    → is_in (ids_at (cs ++ staged) Calendar) (next_number (cs ++ staged) Calendar) ≡ false → more ≡ staged ++ c ∷ [] → qs ≡ rooms_after c (series_put zones c) rs → AreRooms zones (cs ++ more) qs
one_staged zones cs staged more c rs qs h fit new is after =
    same_rooms zones ((cs ++ staged) ++ c ∷ []) (cs ++ more) (rooms_after c (series_put zones c) rs) qs (rooms_more zones (cs ++ staged) c rs h fit new) (ap (λ ds. cs ++ ds) is ∙ sym (append_assoc cs staged (c ∷ []))) after

-- the staged changes are part of the history
pub rooms_committed : (zones : List ZoneText) (h h' : List Entry) (cs : List Change) (rs qs : List BookedRoom) → AreRooms zones (changes_of h ++ cs) rs → changes_of h' ≡ changes_of h ++ cs → qs ≡ rs
    → AreRooms zones (changes_of h') qs
rooms_committed zones h h' cs rs qs rooms is same = same_rooms zones (changes_of h ++ cs) (changes_of h') rs qs rooms is same

-- What rooms tell.

pub room_is_there : (zones : List ZoneText) (cs : List Change) (rs : List BookedRoom) (n : ℕ) → AreRooms zones cs rs → is_resource cs n ≡ true → has_room n rs ≡ true
room_is_there zones cs rs n h resource = ap (has_room n) h.rooms ∙ room_of_resource zones cs n resource

pub room_is_found : (zones : List ZoneText) (cs : List Change) (rs : List BookedRoom) (n : ℕ) → AreRooms zones cs rs → is_resource cs n ≡ true → bookings_in n rs ≡ bookings_of zones cs n
room_is_found zones cs rs n h resource = ap (bookings_in n) h.rooms ∙ bookings_of_room zones cs n resource

pub resources_are_listed : (zones : List ZoneText) (cs : List Change) (rs : List BookedRoom) → AreRooms zones cs rs → map (λ (r : BookedRoom). r.calendar) rs ≡ resources_at cs
resources_are_listed zones cs rs h = ap (map (λ (r : BookedRoom). r.calendar)) h.rooms ∙ calendars_of_rooms zones cs (resources_at cs)

-- A room is there exactly where the calendar is a resource.

resource_is_there : (zones : List ZoneText) (cs : List Change) (rs : List BookedRoom) (n : ℕ) → AreRooms zones cs rs → has_room n rs ≡ true → is_resource cs n ≡ true
resource_is_there zones cs rs n h there = resource_of_room zones cs n (sym (ap (has_room n) h.rooms) ∙ there)

not_there : (zones : List ZoneText) (cs : List Change) (rs : List BookedRoom) (n : ℕ) (is : Bool) → is_resource cs n ≡ is → AreRooms zones cs rs → has_room n rs ≡ false → is ≡ false
not_there zones cs rs n false e h none = refl
not_there zones cs rs n true e h none = let there : has_room n rs ≡ true = room_is_there zones cs rs n h e in absurd (cc (there, none))

pub room_of_none : (zones : List ZoneText) (cs : List Change) (rs : List BookedRoom) (n : ℕ) (o : Option (Bor RoomView)) → AreRooms zones cs rs → IfNone o (has_room n rs ≡ false) → IfNone o (is_resource cs n ≡ false)
room_of_none zones cs rs n None h none = not_there zones cs rs n (is_resource cs n) refl h none
room_of_none zones cs rs n (Some room) h none = tt

pub room_of_some : (zones : List ZoneText) (cs : List Change) (rs : List BookedRoom) (n : ℕ) (o : Option (Bor RoomView)) → AreRooms zones cs rs
    → IfSome o (λ room. (has_room n rs ≡ true) × (room.now.bookings ≡ bookings_in n rs)) → IfSome o (λ room. (is_resource cs n ≡ true) × (room.now.bookings ≡ bookings_of zones cs n))
room_of_some zones cs rs n o h some =
    IfSome_then o some (λ room p. let is = resource_is_there zones cs rs n h p.0 in (is, p.1 ∙ room_is_found zones cs rs n h is))
