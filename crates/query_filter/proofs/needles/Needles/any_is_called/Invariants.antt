use Rattle.std.proofs.Common.{◌≡◌, drop, map}
use Rattle.std.specs.List.{list_any}
use Rattle.spec_events.specs.Participants.{participant_in}
use Rattle.spec_filters.specs.Matches.{is_called}
use Rattle.spec_json.specs.TreeData.{pair_of}
use Rattle.query_filter.proofs.needles.Needles.any_is_called.Given as goal

abbrev pub invariant-loop-participant : goal.invariant-loop-participant
invariant-loop-participant l = list_any (is_called l.needle) (map (λ p. participant_in p.1) (map pair_of (drop l.participant-index l.participants))) ≡ list_any (is_called l.needle) (map (λ p. participant_in p.1) (map pair_of l.participants))
