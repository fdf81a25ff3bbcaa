use Rattle.std.proofs.Common.{◌≡◌, drop, map}
use Rattle.std.specs.List.{list_any}
use Rattle.folded_text.specs.Contains.{contains}
use Rattle.spec_events.specs.Participants.{texts_among}
use Rattle.spec_json.specs.TreeData.{pair_of}
use Rattle.query_filter.proofs.needles.Needles.are_among.Given as goal

abbrev pub invariant-loop-member : goal.invariant-loop-member
invariant-loop-member l = list_any (λ s. contains s l.needle) (texts_among (map pair_of (drop l.member-index l.members))) ≡ list_any (λ s. contains s l.needle) (texts_among (map pair_of l.members))
