use Rattle.std.proofs.Common.{◌≡◌, ◌<◌, ℕ, false}
use Rattle.std.specs.List.{list_any}
use Rattle.patch_object.proofs.PointerLemmas.{front_at}
use Rattle.patch_object.proofs.pointer_set.has_shorter_prefix.Given as goal

abbrev pub invariant-loop-end : goal.invariant-loop-end
invariant-loop-end l = (n : ℕ) → n < l.end → 0 < n → list_any (front_at l.path n) l.paths.keys ≡ false
