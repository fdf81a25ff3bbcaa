use Rattle.std.proofs.Common.{◌≡◌, ◌+◌, ◌*◌, ◌^◌, ◌<◌, drop, map}
use Rattle.spec_json.specs.Data.{items_of, members_of, depth, items_depth, members_depth}
use Rattle.spec_json.specs.TreeData.{data_of, pair_of}
use Rattle.json_edge.specs.Lengths.{saturated, size_of_items, size_of_members}
use Rattle.json_edge.proofs.length.+text_length.Given as goal

abbrev pub invariant-items_length-loop-item : goal.invariant-items_length-loop-item
invariant-items_length-loop-item l = record {
  sum : saturated (l.size + size_of_items (map data_of (drop l.item-index l.item-items))) ≡ saturated (size_of_items (map data_of l.item-items));
  small : l.size < 2 ^ 64;
}

abbrev pub invariant-members_length-loop-member : goal.invariant-members_length-loop-member
invariant-members_length-loop-member l = record {
  sum : saturated (l.size + size_of_members (map pair_of (drop l.member-index l.member-items))) ≡ saturated (size_of_members (map pair_of l.member-items));
  small : l.size < 2 ^ 64;
}

abbrev pub decreases-text_length : goal.decreases-text_length
decreases-text_length l = 2 * depth (data_of l.tree.now)

abbrev pub decreases-items_length : goal.decreases-items_length
decreases-items_length l = 2 * items_depth (items_of (map data_of l.items.now.items)) + 1

abbrev pub decreases-members_length : goal.decreases-members_length
decreases-members_length l = 2 * members_depth (members_of (map pair_of l.members.now.items)) + 1
