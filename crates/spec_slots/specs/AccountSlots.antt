-- The slot that an account has for what is asked, at a history of changes.
use Rattle.std.specs.Prelude.{ℕ, List, Option, Some, None, Result, Err, ok_or, option_map}
use Rattle.spec_bookings.specs.BookedResources.{bookings_of}
use Rattle.spec_bookings.specs.Resources.{is_resource}
use Rattle.spec_calls.specs.declared.call.MethodError.{MethodError}
use Rattle.spec_calls.specs.declared.call.MethodError.TheVariants.{InvalidArguments, NotFound}
use Rattle.spec_calls.specs.declared.call.SlotArguments.{SlotArguments}
use Rattle.spec_history.specs.ObjectId.{object_number}
use Rattle.spec_history.specs.declared.entry.Change.{Change}
use Rattle.spec_history.specs.declared.entry.Kind.TheVariants.{Calendar}
use Rattle.spec_site.specs.Configuration.{passing}
use Rattle.spec_site.specs.TimeZones.{ZoneText}
use Rattle.spec_slots.specs.Requests.{SlotRequest, slot_request}
use Rattle.spec_slots.specs.Slots.{wished_slot}
use Rattle.spec_slots.specs.declared.slot.FoundSlot.{FoundSlot}

-- the number of the live resource calendar of an id
abbrev pub resource_named : List Change → List ℕ → Option ℕ
resource_named cs id = passing (is_resource cs) (object_number Calendar id)

module _ (zones : List ZoneText) (cs : List Change) where
  -- the slot in the room of a calendar, beside the bookings that the history makes there
  abbrev pub slot_in_room : SlotRequest → ℕ → FoundSlot
  slot_in_room a n = wished_slot (bookings_of zones cs n) a.frame.length a.rules a.frame.from a.frame.to

  -- the same in the resource calendar of the id that is asked for; none where there is no such one
  abbrev pub slot_in_account : SlotRequest → Option FoundSlot
  slot_in_account a = option_map (slot_in_room a) (resource_named cs a.frame.calendar)

  -- what a call comes to, or its error (RFC 8620 section 3.6.2)
  abbrev pub slot_called : Option SlotRequest → Result FoundSlot MethodError
  slot_called None = Err InvalidArguments
  slot_called (Some a) = ok_or (slot_in_account a) NotFound

  abbrev pub slot_answered : SlotArguments → Result FoundSlot MethodError
  slot_answered q = slot_called (slot_request q)
