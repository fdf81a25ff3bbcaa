use Rattle.std.proofs.Common.{◌≡◌, ℕ, [], Some, length, slice_get}
use Rattle.listen_workers.proofs.hands.empty_hands.Given as goal

abbrev pub invariant-loop : goal.invariant-loop
invariant-loop g l = record {
  count : length l.hands.items ≡ l.counter;
  empty : (n : ℕ) (hand : _) → slice_get l.hands.items n ≡ Some hand → hand.items ≡ [];
}
