use Rattle.std.proofs.Common.{◌∙◌, ap, sym}
use Rattle.account_rooms.specs.Rooms.{bookings_in, has_room}
use Rattle.account_rooms.specs.RoomsView.{RoomsView}
use Rattle.account_rooms.specs.Slots.{rooms_now}
use Rattle.account_rooms.proofs.rooms.Rooms.room_of.Goals as goal

pub returns-in-None-clause-none : goal.returns-in-None-clause-none
returns-in-None-clause-none c =
    sym (ap (λ ss. has_room c.args.calendar (rooms_now ss)) c.deref.ensures.value ∙ ap (λ (v : RoomsView). has_room c.args.calendar v.rooms) c.self.view_is) ∙ c.in-None.ensures.none

pub returns-in-Some-clause-some : goal.returns-in-Some-clause-some
returns-in-Some-clause-some c = (
  sym (ap (λ ss. has_room c.args.calendar (rooms_now ss)) c.deref.ensures.value ∙ ap (λ (v : RoomsView). has_room c.args.calendar v.rooms) c.self.view_is) ∙ c.in-Some.ensures.some.0,
  sym c.in-Some.ensures.some.1 ∙ ap (λ ss. bookings_in c.args.calendar (rooms_now ss)) c.deref.ensures.value ∙ ap (λ (v : RoomsView). bookings_in c.args.calendar v.rooms) c.self.view_is,
)
