use Rattle.std.proofs.Common.{◌≡◌, map, take, true}
use Rattle.patch_object.specs.Edits.{all_through, change_from}
use Rattle.patch_object.proofs.place.through_len.Given as goal

abbrev pub invariant-loop-n : goal.invariant-loop-n
invariant-loop-n l = all_through l.key (map (change_from l.i) (take l.n l.edits)) ≡ true
