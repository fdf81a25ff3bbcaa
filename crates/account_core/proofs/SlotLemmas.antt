-- The slot that an account has, from the room of the calendar on.
use Rattle.std.proofs.Common.{◌≡◌, ℕ, ◌++◌, Bor, IfNone, IfSome, List, None, Option, Some, [], ap, append-nil, false, refl, subst, true, ◌∙◌}
use Rattle.std.proofs.lemmas.Option.{IfSome_then}
use Rattle.resource_book.specs.RoomView.{RoomView}
use Rattle.spec_bookings.specs.BookedResources.{bookings_of}
use Rattle.spec_bookings.specs.Resources.{is_resource}
use Rattle.spec_bookings.specs.declared.booking.Booking.{Booking}
use Rattle.spec_history.specs.ObjectId.{object_number}
use Rattle.spec_history.specs.declared.entry.Change.{Change}
use Rattle.spec_history.specs.declared.entry.Kind.TheVariants.{Calendar}
use Rattle.spec_site.specs.Configuration.{passing}
use Rattle.spec_site.specs.TimeZones.{ZoneText}
use Rattle.spec_slots.specs.AccountSlots.{resource_named, slot_in_account, slot_in_room}
use Rattle.spec_slots.specs.Requests.{SlotRequest}
use Rattle.spec_slots.specs.Slots.{wished_slot}
use Rattle.spec_slots.specs.declared.slot.FoundSlot.{FoundSlot}

-- The resource calendar of an id.

named_as : (cs : List Change) (id : List ℕ) (n : ℕ) → object_number Calendar id ≡ Some n → is_resource cs n ≡ true → resource_named cs id ≡ Some n
named_as cs id n number is = rw (number, is) refl

named_nothing : (cs : List Change) (id : List ℕ) (n : ℕ) → object_number Calendar id ≡ Some n → is_resource cs n ≡ false → resource_named cs id ≡ None
named_nothing cs id n number is = rw (number, is) refl

pub not_named : (cs : List Change) (id : List ℕ) → object_number Calendar id ≡ None → resource_named cs id ≡ None
not_named cs id number = ap (passing (is_resource cs)) number

module _ (zones : List ZoneText) (cs ds staged : List Change) (same : ds ≡ cs ++ staged) (none_staged : staged ≡ []) where
  same_history : ds ≡ cs
  same_history = same ∙ ap (λ ts. cs ++ ts) none_staged ∙ append-nil cs

  pub named_none : (id : List ℕ) (n : ℕ) (o : Option (Bor RoomView)) → object_number Calendar id ≡ Some n → IfNone o (is_resource ds n ≡ false) → IfNone o (resource_named cs id ≡ None)
  named_none id n None number none = named_nothing cs id n number (subst (λ (es : List Change). is_resource es n ≡ false) same_history none)
  named_none id n (Some room) number none = tt

  pub named_some : (id : List ℕ) (n : ℕ) (o : Option (Bor RoomView)) → object_number Calendar id ≡ Some n
      → IfSome o (λ room. (is_resource ds n ≡ true) × (room.now.bookings ≡ bookings_of zones ds n)) → IfSome o (λ room. (m : ℕ) × (resource_named cs id ≡ Some m) × (room.now.bookings ≡ bookings_of zones cs m))
  named_some id n o number some = IfSome_then o some (λ room p.
      (n, named_as cs id n number (subst (λ (es : List Change). is_resource es n ≡ true) same_history p.0), p.1 ∙ ap (λ (es : List Change). bookings_of zones es n) same_history))

-- The slot in its room.

pub in_room : (zones : List ZoneText) (cs : List Change) (a : SlotRequest) (n : ℕ) (bs : List Booking) → resource_named cs a.frame.calendar ≡ Some n → bs ≡ bookings_of zones cs n
    → (found : FoundSlot) → found ≡ wished_slot bs a.frame.length a.rules a.frame.from a.frame.to → Some found ≡ slot_in_account zones cs a
in_room zones cs a n bs named same found is = let e : found ≡ slot_in_room zones cs a n = is ∙ ap (λ cs. wished_slot cs a.frame.length a.rules a.frame.from a.frame.to) same in rw (named, e) refl
