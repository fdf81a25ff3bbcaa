use Rattle.std.proofs.Common.{◌≡◌, drop, map}
use Rattle.std.specs.List.{list_all}
use Rattle.spec_events.specs.Participants.{is_participant_member}
use Rattle.spec_json.specs.TreeData.{pair_of}
use Rattle.participants.proofs.table.all_participants.Given as goal

abbrev pub invariant-loop-member : goal.invariant-loop-member
invariant-loop-member l = list_all is_participant_member (map pair_of (drop l.member-index l.members)) ≡ list_all is_participant_member (map pair_of l.members)
