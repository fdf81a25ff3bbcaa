use Rattle.std.proofs.Common.{◌≡◌, drop, map}
use Rattle.spec_events.specs.Participants.{are_texts}
use Rattle.spec_json.specs.TreeData.{pair_of}
use Rattle.participants.proofs.table.all_texts.Given as goal

abbrev pub invariant-loop-member : goal.invariant-loop-member
invariant-loop-member l = are_texts (map pair_of (drop l.member-index l.members)) ≡ are_texts (map pair_of l.members)
