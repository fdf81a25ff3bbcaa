use Rattle.std.proofs.Common.{◌≡◌, take}
use Rattle.object_outcomes.proofs.created_ids.CreatedIds.of.Given as goal

abbrev pub invariant-loop-key : goal.invariant-loop-key
invariant-loop-key l = l.ids ≡ take l.key-index l.fn.pairs
