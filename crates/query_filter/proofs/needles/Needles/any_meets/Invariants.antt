use Rattle.std.proofs.Common.{◌≡◌, drop, map, option_map}
use Rattle.folded_text.specs.Contains.{contains}
use Rattle.spec_events.specs.Participants.{any_meets, participant_in}
use Rattle.spec_json.specs.TreeData.{pair_of}
use Rattle.query_filter.proofs.needles.Needles.any_meets.Given as goal

abbrev pub invariant-loop-participant : goal.invariant-loop-participant
invariant-loop-participant l =
    let needle = option_map (λ n s. contains s n.now) l.needle in
    let status = option_map (λ t. t.now) l.status in
    any_meets needle status (map (λ p. participant_in p.1) (map pair_of (drop l.participant-index l.participants))) ≡ any_meets needle status (map (λ p. participant_in p.1) (map pair_of l.participants))
