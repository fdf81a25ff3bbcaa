-- What a log of objects shows.
use Rattle.std.specs.Prelude.{ℕ, min, List}
use Rattle.object_log.specs.Room.{slot_room, window_room}
use Rattle.object_log.specs.declared.log.ObjectLog.{ObjectLog}
use Rattle.object_log.specs.declared.put.Put.{Put}

module _ {T : Type 0} where
  -- all changes that ever were, in order
  abbrev pub puts : ObjectLog T → List (Put T)
  puts log = log.told.items

  -- the oldest state that is answered from
  abbrev pub first : ObjectLog T → ℕ
  first log = log.first

  -- how many changes more are taken without memory, at least
  abbrev pub room : ObjectLog T → ℕ
  room log = min (slot_room log.slots) (window_room log.window)
