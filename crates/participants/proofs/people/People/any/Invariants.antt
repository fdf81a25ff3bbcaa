use Rattle.std.proofs.Common.{◌≡◌, drop, option_map}
use Rattle.spec_events.specs.Participants.{any_meets}
use Rattle.participants.proofs.people.People.any.Given as goal

abbrev pub invariant-loop-participant : goal.invariant-loop-participant
invariant-loop-participant g l =
    let finds = option_map (λ f. g.F.Finds.finds f.now) l.finds in
    let status = option_map (λ t. t.now) l.status in
    any_meets finds status (drop l.participant-index l.participant-items) ≡ any_meets finds status l.self
