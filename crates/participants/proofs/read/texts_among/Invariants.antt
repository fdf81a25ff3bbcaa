use Rattle.std.proofs.Common.{◌≡◌, ◌++◌, drop, map}
use Rattle.spec_events.specs.Participants.{texts_among}
use Rattle.spec_json.specs.TreeData.{pair_of}
use Rattle.participants.proofs.read.texts_among.Given as goal

abbrev pub invariant-loop-member : goal.invariant-loop-member
invariant-loop-member l = l.texts.items ++ texts_among (map pair_of (drop l.member-index l.members)) ≡ texts_among (map pair_of l.members)
