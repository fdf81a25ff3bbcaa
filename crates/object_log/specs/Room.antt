-- How much is taken without memory.
use Rattle.std.specs.Prelude.{ℕ, ◌-◌, vec_capacity, vec_len}
use Rattle.std.specs.VecDeque.{deque_capacity, deque_len}
use Rattle.object_log.specs.declared.slots.Slots.{Slots}
use Rattle.object_log.specs.declared.window.Window.{Window}

module _ {T : Type 0} where
  -- how many slots more are taken without memory
  abbrev pub slot_room : Slots T → ℕ
  slot_room s = vec_capacity s.items - vec_len s.items

  -- how many changes more are taken without memory
  abbrev pub window_room : Window T → ℕ
  window_room w = deque_capacity w.pasts - deque_len w.pasts
