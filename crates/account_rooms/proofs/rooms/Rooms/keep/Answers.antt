use Rattle.std.proofs.Common.{◌∙◌, arith, ap, map}
use Rattle.std.proofs.lemmas.List.{take_all}
use Rattle.account_rooms.proofs.Slots.{kept_kept, kept_now, view_of}
use Rattle.account_rooms.specs.RoomsView.{RoomsView}
use Rattle.account_rooms.specs.Slots.{kept_slot, rooms_kept, rooms_now}
use Rattle.account_rooms.proofs.rooms.Rooms.keep.Goals as goal

pub returns : goal.returns
returns c =
    let ss = c.self.inside.slots.items in
    let after = c.keep_all.ensures ∙ ap (map kept_slot) c.drop_closed.ensures in
    let was = ap (λ (v : RoomsView). v.rooms) c.self.view_is in
    let whole = take_all c.len-self-inside.result c.keep_all.new.slots.items (omega (arith, c.len-self-inside.ensures, c.keep_all.new.slots.ok.0)) in
    view_of _ _ _ _ (ap rooms_now after ∙ kept_now ss ∙ was) (ap rooms_kept whole ∙ ap rooms_kept after ∙ kept_kept ss ∙ was)
