use Rattle.std.proofs.Common.{◌≡◌, ◌+◌, ◌*◌, drop, map}
use Rattle.spec_filters.specs.Filters.{all_true, holds, some_true}
use Rattle.spec_json.specs.Data.{depth, items_depth, items_of, members_depth, members_of}
use Rattle.spec_json.specs.TreeData.{data_of}
use Rattle.query_filter.specs.EventTests.{event_meets}
use Rattle.query_filter.proofs.condition.EventTest.+holds.Given as goal

abbrev pub invariant-all_hold-loop-filter : goal.invariant-all_hold-loop-filter
invariant-all_hold-loop-filter l = all_true (map (holds (event_meets l.self)) (map data_of (drop l.filter-index l.filters))) ≡ all_true (map (holds (event_meets l.self)) (map data_of l.filters))

abbrev pub invariant-any_holds-loop-filter : goal.invariant-any_holds-loop-filter
invariant-any_holds-loop-filter l = some_true (map (holds (event_meets l.self)) (map data_of (drop l.filter-index l.filters))) ≡ some_true (map (holds (event_meets l.self)) (map data_of l.filters))

abbrev pub decreases-holds : goal.decreases-holds
decreases-holds l = 4 * depth (data_of l.filter.now)

abbrev pub decreases-object_holds : goal.decreases-object_holds
decreases-object_holds l = 4 * members_depth (members_of l.filter.now) + 3

abbrev pub decreases-operator_holds : goal.decreases-operator_holds
decreases-operator_holds l = 4 * items_depth (items_of (map data_of l.conditions.now)) + 2

abbrev pub decreases-all_hold : goal.decreases-all_hold
decreases-all_hold l = 4 * items_depth (items_of (map data_of l.filters.now)) + 1

abbrev pub decreases-any_holds : goal.decreases-any_holds
decreases-any_holds l = 4 * items_depth (items_of (map data_of l.filters.now)) + 1
