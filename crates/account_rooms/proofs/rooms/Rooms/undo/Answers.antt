use Rattle.std.proofs.Common.{◌∙◌, ap, map, take}
use Rattle.account_rooms.proofs.Slots.{undone_kept, undone_now, view_of}
use Rattle.account_rooms.specs.RoomsView.{RoomsView}
use Rattle.account_rooms.specs.Slots.{rooms_kept, rooms_now, undone}
use Rattle.account_rooms.proofs.rooms.Rooms.undo.Goals as goal

pub returns : goal.returns
returns c =
    let k = c.self.inside.kept in
    let ss = c.self.inside.slots.items in
    let after = c.undo_all.ensures ∙ ap (map undone) c.truncate.ensures.items in
    let was = ap (λ (v : RoomsView). v.kept) c.self.view_is in
    view_of _ _ _ _ (ap rooms_now after ∙ undone_now (take k ss) ∙ was) (ap (λ ts. rooms_kept (take k ts)) after ∙ undone_kept k ss ∙ was)
