use Rattle.std.proofs.Common.{◌≡◌, ℕ, ◌<◌, ◌≤◌, ◌++◌, ◌∷◌, [], Some, length, slice_get}
use Rattle.listen_workers.proofs.hands.deal.Given as goal

abbrev pub invariant-loop-number : goal.invariant-loop-number
invariant-loop-number g l = record {
  count : length l.hands.items ≡ length l.initial.hands.items;
  dealt : (n : ℕ) (before after item : _) → n < length l.yielded → slice_get l.initial.hands.items n ≡ Some before → slice_get l.fn.items.items n ≡ Some item
      → slice_get l.hands.items n ≡ Some after → after.items ≡ before.items ++ item ∷ [];
  left : (n : ℕ) → length l.yielded ≤ n → slice_get l.hands.items n ≡ slice_get l.initial.hands.items n;
}
