use Rattle.std.proofs.Common.{◌≡◌, drop}
use Rattle.std.specs.List.{list_any}
use Rattle.participants.proofs.participant.any_found.Given as goal

abbrev pub invariant-loop-text : goal.invariant-loop-text
invariant-loop-text g l = list_any (g.F.Finds.finds l.finds) (drop l.text-index l.texts) ≡ list_any (g.F.Finds.finds l.finds) l.texts
