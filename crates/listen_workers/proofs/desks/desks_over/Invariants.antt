use Rattle.std.proofs.Common.{◌≡◌, ◌≤◌, length, map}
use Rattle.std.specs.Prelude.{vec_capacity}
use Rattle.account_desk.specs.SharedDesk.{greatest_turn}
use Rattle.listen_workers.proofs.desks.desks_over.Given as goal

abbrev pub invariant-loop-hand : goal.invariant-loop-hand
invariant-loop-hand g l = record {
  desks : l.desks.items ≡ map (λ hand. (map g.L.AccountLock.state hand.items, greatest_turn (map g.L.AccountLock.state hand.items))) l.yielded;
  room : length l.fn.hands.items ≤ vec_capacity l.desks;
}
