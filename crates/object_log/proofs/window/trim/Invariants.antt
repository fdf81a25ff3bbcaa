use Rattle.std.proofs.Common.{◌≡◌, ◌<◌, ◌≤◌, ◌+◌, ℕ, drop, false, length}
use Rattle.std.specs.VecDeque.{deque_capacity, deque_len}
use Rattle.object_log.specs.Pasts.{bytes_of, fits}
use Rattle.object_log.proofs.window.trim.Given as goal

-- of all changes the oldest are gone, and from any of those on more would be there than fits
abbrev pub invariant-loop-pasts : goal.invariant-loop-pasts
invariant-loop-pasts g l = record {
  pasts : l.pasts.items ≡ drop l.count l.initial.pasts.items;
  within : l.count ≤ length l.initial.pasts.items;
  before : (d : ℕ) → d < l.count → fits (drop d l.initial.pasts.items) ≡ false;
  left : l.left ≡ bytes_of l.pasts.items;
  len : deque_len l.pasts + l.count ≡ deque_len l.initial.pasts;
  capacity : deque_capacity l.pasts ≡ deque_capacity l.initial.pasts;
}

abbrev pub decreases-loop-pasts : goal.decreases-loop-pasts
decreases-loop-pasts g l = deque_len l.pasts
