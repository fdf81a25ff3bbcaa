use Rattle.std.proofs.Common.{◌≡◌, ◌++◌, ◌∷◌, map, length, true}
use Rattle.std.specs.Vec.Iter.{into_iter_items}
use Rattle.spec_json.specs.Edit.{put_all}
use Rattle.spec_json.specs.ObjectKeys.{keys_rise}
use Rattle.spec_json.specs.TreeData.{pair_of}
use Rattle.spec_json.proofs.tree.merge.merged.Given as goal

abbrev pub invariant-loop-other : goal.invariant-loop-other
invariant-loop-other l = record {
  whole : map pair_of l.merged.items ++ put_all (map pair_of (into_iter_items l.other-iterator)) (map pair_of l.own.items) ≡ put_all (map pair_of l.fn.others.items) (map pair_of l.fn.own.items);
  order : keys_rise (map pair_of (into_iter_items l.other-iterator)) ≡ true;
}

abbrev pub invariant-loop-member : goal.invariant-loop-member
invariant-loop-member l = record {
  whole : map pair_of l.merged.items ++ put_all (pair_of l.other ∷ map pair_of (into_iter_items l.other-iterator)) (map pair_of l.own.items) ≡ put_all (map pair_of l.fn.others.items) (map pair_of l.fn.own.items);
  order : keys_rise (pair_of l.other ∷ map pair_of (into_iter_items l.other-iterator)) ≡ true;
}

abbrev pub decreases-loop-member : goal.decreases-loop-member
decreases-loop-member l = length l.own.items
