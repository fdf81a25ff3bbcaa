use Rattle.std.proofs.Common.{◌≡◌, ◌+◌, ◌*◌, map}
use Rattle.spec_json.specs.Data.{depth, items_depth, items_of, members_depth, members_of}
use Rattle.spec_json.specs.TreeData.{data_of}
use Rattle.query_filter.proofs.zoned.+keep.Given as goal

abbrev pub invariant-keep_each-loop-filter : goal.invariant-keep_each-loop-filter
invariant-keep_each-loop-filter l = l.clock ≡ l.initial.clock

abbrev pub decreases-keep_all : goal.decreases-keep_all
decreases-keep_all l = 3 * depth (data_of l.filter.now)

abbrev pub decreases-keep_object : goal.decreases-keep_object
decreases-keep_object l = 3 * members_depth (members_of l.filter.now) + 2

abbrev pub decreases-keep_each : goal.decreases-keep_each
decreases-keep_each l = 3 * items_depth (items_of (map data_of l.filters.now)) + 1
