use Rattle.std.proofs.Common.{◌≡◌, ◌++◌, drop, map}
use Rattle.spec_events.specs.Events.{calendars_among}
use Rattle.spec_json.specs.TreeData.{pair_of}
use Rattle.single_event.proofs.calendars.calendars_among.Given as goal

abbrev pub invariant-loop-member : goal.invariant-loop-member
invariant-loop-member l = l.calendars.items ++ calendars_among (map pair_of (drop l.member-index l.members)) ≡ calendars_among (map pair_of l.members)
