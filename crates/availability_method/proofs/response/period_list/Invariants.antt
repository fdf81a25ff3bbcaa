use Rattle.std.proofs.Common.{◌≡◌, map, take}
use Rattle.spec_availability.specs.Availability.{period_data}
use Rattle.spec_json.specs.TreeData.{data_of}
use Rattle.availability_method.proofs.response.period_list.Given as goal

abbrev pub invariant-loop-period : goal.invariant-loop-period
invariant-loop-period l = map data_of l.items.items ≡ map period_data (take l.period-index l.periods)
