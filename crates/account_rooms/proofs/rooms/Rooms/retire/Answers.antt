use Rattle.std.proofs.Common.{◌∙◌, ap, map, take}
use Rattle.account_rooms.proofs.Slots.{retired_kept, retired_now, room_without}
use Rattle.account_rooms.specs.RoomsView.{RoomsView}
use Rattle.account_rooms.specs.Slots.{rooms_kept, rooms_now}
use Rattle.account_rooms.proofs.rooms.Rooms.retire.Goals as goal

pub returns-clause-rooms : goal.returns-clause-rooms
returns-clause-rooms c =
    ap rooms_now c.retire_in_all.ensures ∙ retired_now c.args.event c.self.inside.slots.items ∙ ap (λ (v : RoomsView). map (room_without c.args.event) v.rooms) c.self.view_is

pub returns-clause-kept : goal.returns-clause-kept
returns-clause-kept c =
    ap (λ ss. rooms_kept (take c.self.inside.kept ss)) c.retire_in_all.ensures ∙ retired_kept c.args.event c.self.inside.kept c.self.inside.slots.items ∙ ap (λ (v : RoomsView). v.kept) c.self.view_is
