use Rattle.std.proofs.Common.{◌≡◌, ◌*◌, ◌+◌, drop, map, nat_le}
use Rattle.spec_json.specs.Data.{items_depth, items_of, members_depth, members_of}
use Rattle.spec_json.specs.TreeData.{data_of, pair_of}
use Rattle.spec_json.proofs.tree.depth.+nests.Given as goal

abbrev pub decreases-nests_within : goal.decreases-nests_within
decreases-nests_within l = 2 * l.most

abbrev pub decreases-items_nest_within : goal.decreases-items_nest_within
decreases-items_nest_within l = 2 * l.most + 1

abbrev pub decreases-members_nest_within : goal.decreases-members_nest_within
decreases-members_nest_within l = 2 * l.most + 1

abbrev pub invariant-items_nest_within-loop-item : goal.invariant-items_nest_within-loop-item
invariant-items_nest_within-loop-item l = nat_le (items_depth (items_of (map data_of (drop l.item-index l.items.items)))) l.most ≡ nat_le (items_depth (items_of (map data_of l.items.items))) l.most

abbrev pub invariant-members_nest_within-loop-member : goal.invariant-members_nest_within-loop-member
invariant-members_nest_within-loop-member l = nat_le (members_depth (members_of (map pair_of (drop l.member-index l.members.items)))) l.most ≡ nat_le (members_depth (members_of (map pair_of l.members.items))) l.most
