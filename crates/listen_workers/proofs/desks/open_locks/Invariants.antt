use Rattle.std.proofs.Common.{◌≡◌, ℕ, Some, length, map, slice_get}
use Rattle.listen_workers.specs.Passes.{fresh_passes}
use Rattle.listen_workers.proofs.desks.open_locks.Given as goal

abbrev pub invariant-loop-account : goal.invariant-loop-account
invariant-loop-account g l = record {
  locks : length l.locks.items ≡ length l.yielded;
  workers : length l.hands.items ≡ l.workers;
  hands : (w : ℕ) (hand : _) → slice_get l.hands.items w ≡ Some hand → map g.L.AccountLock.state hand.items ≡ fresh_passes (map g.L.AccountLock.lock l.locks.items) (map g.L.AccountLock.account l.yielded) w;
}
