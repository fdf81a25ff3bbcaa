-- What contracts see of the rooms of an account.
use Rattle.std.specs.Prelude.{List}
use Rattle.account_rooms.specs.Rooms.{BookedRoom}

pub record RoomsView : Type 0 where
  pub rooms : List BookedRoom
  -- the rooms that `undo` goes back to
  pub kept : List BookedRoom
