use Rattle.std.proofs.Common.{◌≡◌, drop, map}
use Rattle.std.specs.List.{list_all}
use Rattle.spec_events.specs.Events.{is_calendar_member}
use Rattle.spec_json.specs.TreeData.{pair_of}
use Rattle.single_event.proofs.table.all_calendars.Given as goal

abbrev pub invariant-loop-member : goal.invariant-loop-member
invariant-loop-member l = list_all is_calendar_member (map pair_of (drop l.member-index l.members)) ≡ list_all is_calendar_member (map pair_of l.members)
