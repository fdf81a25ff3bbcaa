-- The laws of rooms.
use Rattle.account_rooms.proofs.Following.{bookings_of_room, calendars_of_rooms, room_of_resource}
use Rattle.spec_bookings.specs.Resources.{resources_at}
use Rattle.account_rooms.proofs.laws.rooms_are_of_resources.Goals as goal

pub returns-clause-calendars : goal.returns-clause-calendars
returns-clause-calendars c = λ zones cs. calendars_of_rooms zones cs (resources_at cs)

pub returns-clause-there : goal.returns-clause-there
returns-clause-there c = room_of_resource

pub returns-clause-bookings : goal.returns-clause-bookings
returns-clause-bookings c = bookings_of_room
