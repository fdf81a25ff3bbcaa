-- The loop of `copy`: the rules so far stand in the new list.
use Rattle.std.proofs.Common.{◌≡◌}
use Rattle.std.specs.Prelude.{take}
use Rattle.spec_series.proofs.rules.Rules.copy.Given as goal

abbrev pub invariant-loop-rule : goal.invariant-loop-rule
invariant-loop-rule l = l.items.items ≡ take l.rule-index l.rule-items
