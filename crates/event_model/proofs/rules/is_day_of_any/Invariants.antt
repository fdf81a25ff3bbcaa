use Rattle.std.proofs.Common.{◌≡◌, drop}
use Rattle.std.specs.List.{list_any}
use Rattle.spec_series.specs.RuleSets.{is_in_set}
use Rattle.event_model.proofs.rules.is_day_of_any.Given as goal

abbrev pub invariant-loop-rule : goal.invariant-loop-rule
invariant-loop-rule l = list_any (λ rule. is_in_set rule l.start l.day) (drop l.rule-index l.rules) ≡ list_any (λ rule. is_in_set rule l.start l.day) l.rules
