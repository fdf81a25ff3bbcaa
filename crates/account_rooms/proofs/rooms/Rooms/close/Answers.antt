use Rattle.std.proofs.Common.{◌∙◌, ap, take}
use Rattle.account_rooms.proofs.Slots.{closed_kept, closed_now}
use Rattle.account_rooms.specs.RoomChanges.{without_room}
use Rattle.account_rooms.specs.RoomsView.{RoomsView}
use Rattle.account_rooms.specs.Slots.{rooms_kept, rooms_now}
use Rattle.account_rooms.proofs.rooms.Rooms.close.Goals as goal

pub returns-clause-rooms : goal.returns-clause-rooms
returns-clause-rooms c =
    ap rooms_now c.close.ensures ∙ closed_now c.args.calendar c.self.inside.slots.items ∙ ap (λ (v : RoomsView). without_room c.args.calendar v.rooms) c.self.view_is

pub returns-clause-kept : goal.returns-clause-kept
returns-clause-kept c =
    ap (λ ss. rooms_kept (take c.self.inside.kept ss)) c.close.ensures ∙ closed_kept c.args.calendar c.self.inside.kept c.self.inside.slots.items ∙ ap (λ (v : RoomsView). v.kept) c.self.view_is
