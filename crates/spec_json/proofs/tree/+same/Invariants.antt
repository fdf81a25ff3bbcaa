use Rattle.std.proofs.Common.{◌≡◌, drop, map}
use Rattle.spec_json.specs.Data.{items_of, members_of}
use Rattle.spec_json.specs.SameData.{same_items, same_members}
use Rattle.spec_json.specs.TreeData.{data_of, pair_of}
use Rattle.spec_json.proofs.tree.+same.Given as goal

abbrev pub invariant-same_trees-loop-i : goal.invariant-same_trees-loop-i
invariant-same_trees-loop-i l = same_items (items_of (map data_of (drop l.i l.one))) (items_of (map data_of (drop l.i l.two))) ≡ same_items (items_of (map data_of l.one)) (items_of (map data_of l.two))

abbrev pub invariant-same_each-loop-i : goal.invariant-same_each-loop-i
invariant-same_each-loop-i l = same_members (members_of (map pair_of (drop l.i l.one))) (members_of (map pair_of (drop l.i l.two))) ≡ same_members (members_of (map pair_of l.one)) (members_of (map pair_of l.two))
