use Rattle.std.proofs.Common.{◌≡◌, ◌++◌, drop, filter}
use Rattle.spec_events.specs.Events.{names_calendar}
use Rattle.spec_json.specs.TreeData.{data_of}
use Rattle.object_outcomes.proofs.resources.named_among.Given as goal

abbrev pub invariant-loop-number : goal.invariant-loop-number
invariant-loop-number l = l.named.items ++ filter (λ n. names_calendar n (data_of l.event)) (drop l.number-index l.numbers) ≡ filter (λ n. names_calendar n (data_of l.event)) l.numbers
