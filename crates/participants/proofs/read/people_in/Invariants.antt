use Rattle.std.proofs.Common.{◌≡◌, ◌++◌, drop, map}
use Rattle.spec_events.specs.Participants.{participant_in}
use Rattle.spec_json.specs.TreeData.{pair_of}
use Rattle.participants.proofs.read.people_in.Given as goal

abbrev pub invariant-loop-member : goal.invariant-loop-member
invariant-loop-member l = l.people.items ++ map (λ p. participant_in p.1) (map pair_of (drop l.member-index l.members)) ≡ map (λ p. participant_in p.1) (map pair_of l.members)
