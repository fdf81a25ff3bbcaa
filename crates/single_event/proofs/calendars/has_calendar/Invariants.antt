use Rattle.std.proofs.Common.{◌≡◌, ◌==◌, drop, map}
use Rattle.std.specs.List.{list_any}
use Rattle.spec_events.specs.Events.{calendars_among}
use Rattle.spec_json.specs.TreeData.{pair_of}
use Rattle.single_event.proofs.calendars.has_calendar.Given as goal

abbrev pub invariant-loop-member : goal.invariant-loop-member
invariant-loop-member l = list_any (λ n. n == l.number) (calendars_among (map pair_of (drop l.member-index l.members))) ≡ list_any (λ n. n == l.number) (calendars_among (map pair_of l.members))
