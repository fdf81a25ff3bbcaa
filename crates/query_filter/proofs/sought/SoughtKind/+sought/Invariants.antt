use Rattle.std.proofs.Common.{◌≡◌, ◌+◌, ◌*◌, drop, map}
use Rattle.spec_filters.specs.Filters.{is_found, some_true}
use Rattle.spec_json.specs.Data.{depth, items_depth, items_of, members_depth, members_of}
use Rattle.spec_json.specs.TreeData.{data_of}
use Rattle.query_filter.specs.SoughtKinds.{sought_of}
use Rattle.query_filter.proofs.sought.SoughtKind.+sought.Given as goal

abbrev pub invariant-is_found_among-loop-filter : goal.invariant-is_found_among-loop-filter
invariant-is_found_among-loop-filter l = some_true (map (is_found (sought_of l.self)) (map data_of (drop l.filter-index l.filters))) ≡ some_true (map (is_found (sought_of l.self)) (map data_of l.filters))

abbrev pub decreases-is_found : goal.decreases-is_found
decreases-is_found l = 3 * depth (data_of l.tree.now)

abbrev pub decreases-is_found_in : goal.decreases-is_found_in
decreases-is_found_in l = 3 * members_depth (members_of l.filter.now) + 2

abbrev pub decreases-is_found_among : goal.decreases-is_found_among
decreases-is_found_among l = 3 * items_depth (items_of (map data_of l.filters.now)) + 1
