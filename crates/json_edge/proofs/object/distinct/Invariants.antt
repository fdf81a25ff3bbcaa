use Rattle.std.proofs.Common.{◌≡◌, ◌++◌, [], map, option_map}
use Rattle.std.specs.Vec.Iter.{into_iter_items}
use Rattle.spec_json.specs.ObjectKeys.{HasOrderedKeys}
use Rattle.spec_json.specs.TreeData.{pair_of}
use Rattle.json_edge.specs.FoundMembers.{whole_pairs, first_of_each, last_key}
use Rattle.json_edge.specs.FoundData.{found_of}
use Rattle.json_edge.proofs.object.distinct.Given as goal

abbrev pub invariant-loop-key : goal.invariant-loop-key
invariant-loop-key l =
    (whole_pairs (first_of_each (last_key []) (map found_of l.fn.found.items)) ≡ option_map (λ qs. map pair_of l.members.items ++ qs) (whole_pairs (first_of_each (last_key (map pair_of l.members.items)) (map found_of (into_iter_items l.key-iterator)))))
    × HasOrderedKeys (map pair_of l.members.items)
