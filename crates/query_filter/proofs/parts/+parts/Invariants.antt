use Rattle.std.proofs.Common.{◌≡◌, ◌+◌, ◌*◌, drop, map}
use Rattle.std.specs.List.{sum}
use Rattle.spec_filters.specs.Filters.{count_parts}
use Rattle.spec_json.specs.Data.{depth, items_depth, items_of, members_depth, members_of}
use Rattle.spec_json.specs.TreeData.{data_of}
use Rattle.query_filter.proofs.parts.+parts.Given as goal

abbrev pub invariant-left_behind_all-loop-filter : goal.invariant-left_behind_all-loop-filter
invariant-left_behind_all-loop-filter l = l.left + sum (map count_parts (map data_of (drop l.filter-index l.filters))) ≡ l.rest + sum (map count_parts (map data_of l.filters))

abbrev pub decreases-left_behind : goal.decreases-left_behind
decreases-left_behind l = 3 * depth (data_of l.filter.now)

abbrev pub decreases-left_behind_object : goal.decreases-left_behind_object
decreases-left_behind_object l = 3 * members_depth (members_of l.filter.now) + 2

abbrev pub decreases-left_behind_all : goal.decreases-left_behind_all
decreases-left_behind_all l = 3 * items_depth (items_of (map data_of l.filters.now)) + 1
