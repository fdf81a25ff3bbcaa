use Rattle.std.proofs.Common.{◌≡◌, ◌≤◌, ◌+ℤ◌, pos}
use Rattle.spec_series.specs.Places.{count_days}
use Rattle.spec_series.specs.RuleSets.{day_matches}
use Rattle.rule_expand.proofs.occurs.count_one_by_one.Given as goal

abbrev pub invariant-loop-k : goal.invariant-loop-k
invariant-loop-k l = record {
  at : l.at.day ≡ l.first +ℤ pos l.k;
  value : l.found ≡ count_days (day_matches l.rule) l.first l.k;
  bound : l.found ≤ l.k;
}
