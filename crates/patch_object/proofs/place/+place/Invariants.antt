use Rattle.std.proofs.Common.{◌≡◌, ◌-◌, ◌*◌, ◌+◌, ◌≤◌, drop, length, map}
use Rattle.patch_object.specs.Edits.{change_from, longest, placed_each}
use Rattle.patch_object.proofs.place.+place.Given as goal

abbrev pub decreases-place : goal.decreases-place
decreases-place l = 3 * (longest l.edits.now - l.i) + 2

abbrev pub decreases-place_in : goal.decreases-place_in
decreases-place_in l = 3 * (longest l.edits.now - l.i) + 1

abbrev pub decreases-place_group : goal.decreases-place_group
decreases-place_group l = 3 * (longest l.group.now - l.i)

abbrev pub invariant-place_in-loop-done : goal.invariant-place_in-loop-done
invariant-place_in-loop-done l = record {
  placed : placed_each (map (change_from l.i) (drop l.done l.edits)) l.cursor ≡ placed_each (map (change_from l.i) l.edits) l.fn.object;
  bound : l.done ≤ length l.edits;
}

abbrev pub decreases-place_in-loop-done : goal.decreases-place_in-loop-done
decreases-place_in-loop-done l = length l.edits - l.done
