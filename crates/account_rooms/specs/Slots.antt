-- The rooms that slots hold, and slots after a step.
use Rattle.std.specs.Prelude.{ℕ, ◌==◌, ◌&&◌, Bool, true, false, List, None, filter, map, if◌then◌else◌}
use Rattle.account_rooms.specs.Rooms.{BookedRoom}
use Rattle.account_rooms.specs.declared.slot.Slot.{Slot}
use Rattle.spec_events.specs.Events.{names_calendar}
use Rattle.spec_json.specs.Data.{Data}
use Rattle.spec_bookings.specs.Bookings.{with_booking, without_booking}
use Rattle.spec_bookings.specs.declared.booking.Booking.{Booking}
use Rattle.spec_series.specs.declared.series.Series.{Series}

abbrev pub room_now : Slot → BookedRoom
room_now s = record { calendar = s.calendar; bookings = s.room.bookings }

abbrev pub room_kept : Slot → BookedRoom
room_kept s = record { calendar = s.calendar; bookings = s.room.kept }

-- the rooms of the calendars that are live
abbrev pub rooms_now : List Slot → List BookedRoom
rooms_now ss = map room_now (filter (λ s. s.live) ss)

-- the rooms that can be gone back to
abbrev pub rooms_kept : List Slot → List BookedRoom
rooms_kept ss = map room_kept ss

-- with these bookings
abbrev pub with_bookings : List Booking → Slot → Slot
with_bookings bs s = record { calendar = s.calendar; room = record { bookings = bs; kept = s.room.kept; ready = None }; live = s.live }

-- without the booking of an event
abbrev pub retired : ℕ → Slot → Slot
retired n s = with_bookings (without_booking n s.room.bookings) s

-- the event is in the calendar, which is live
abbrev pub is_booked_by : Data → Slot → Bool
is_booked_by d s = s.live && names_calendar s.calendar d

-- with the booking of an event, where it is in the calendar
abbrev pub booked : ℕ → Data → Series → Slot → Slot
booked n d series s = if is_booked_by d s then with_bookings (with_booking n series s.room.bookings) s else s

-- not live any more, where it is of this calendar
abbrev pub closed : ℕ → Slot → Slot
closed n s = if s.calendar == n then record s { live = false } else s

abbrev pub kept_slot : Slot → Slot
kept_slot s = record { calendar = s.calendar; room = record { bookings = s.room.bookings; kept = s.room.bookings; ready = None }; live = s.live }

abbrev pub undone : Slot → Slot
undone s = record { calendar = s.calendar; room = record { bookings = s.room.kept; kept = s.room.kept; ready = None }; live = true }
