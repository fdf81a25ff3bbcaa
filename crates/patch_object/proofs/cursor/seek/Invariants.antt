use Rattle.std.proofs.Common.{◌≡◌, ◌++◌, map, length, true}
use Rattle.spec_json.specs.TreeData.{pair_of}
use Rattle.patch_object.specs.Cursor.{all_below}
use Rattle.patch_object.proofs.cursor.seek.Given as goal

abbrev pub invariant-loop-member : goal.invariant-loop-member
invariant-loop-member l = map pair_of l.before.items ++ map pair_of l.behind.items ≡ map pair_of l.fn.before.items ++ map pair_of l.fn.behind.items

abbrev pub decreases-loop-member : goal.decreases-loop-member
decreases-loop-member l = length l.before.items

abbrev pub invariant-loop-member-2 : goal.invariant-loop-member-2
invariant-loop-member-2 l = record {
  same : map pair_of l.before.items ++ map pair_of l.behind.items ≡ map pair_of l.fn.before.items ++ map pair_of l.fn.behind.items;
  below : all_below l.key (map pair_of l.before.items) ≡ true;
}

abbrev pub decreases-loop-member-2 : goal.decreases-loop-member-2
decreases-loop-member-2 l = length l.behind.items
