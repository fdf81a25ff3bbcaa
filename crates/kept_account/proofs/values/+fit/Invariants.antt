use Rattle.std.proofs.Common.{◌+◌, ◌*◌, drop, map}
use Rattle.spec_json.specs.Data.{depth, items_depth, items_of, members_depth, members_of}
use Rattle.spec_json.specs.Fit.{AreFit, MembersAreFit}
use Rattle.spec_json.specs.TreeData.{data_of, pair_of}
use Rattle.kept_account.proofs.values.+fit.Given as goal

abbrev pub invariant-are_items_fit-loop-item : goal.invariant-are_items_fit-loop-item
invariant-are_items_fit-loop-item l = AreFit (items_of (map data_of (drop l.item-index l.item-items))) → AreFit (items_of (map data_of l.item-items))

abbrev pub invariant-are_members_fit-loop-member : goal.invariant-are_members_fit-loop-member
invariant-are_members_fit-loop-member l = MembersAreFit (members_of (map pair_of (drop l.member-index l.member-items))) → MembersAreFit (members_of (map pair_of l.member-items))

abbrev pub decreases-is_fit : goal.decreases-is_fit
decreases-is_fit l = 2 * depth (data_of l.tree.now)

abbrev pub decreases-are_items_fit : goal.decreases-are_items_fit
decreases-are_items_fit l = 2 * items_depth (items_of (map data_of l.items.now.items)) + 1

abbrev pub decreases-are_members_fit : goal.decreases-are_members_fit
decreases-are_members_fit l = 2 * members_depth (members_of (map pair_of l.members.now.items)) + 1
