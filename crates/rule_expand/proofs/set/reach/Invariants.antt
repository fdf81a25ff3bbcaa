use Rattle.std.specs.Prelude.{◌*◌, ◌+ℤ◌, ◌≤ℤ◌, ℕ, pos}
use Rattle.spec_series.specs.RuleSets.{is_due}
use Rattle.rule_expand.specs.Sets.{IsCountAt}
use Rattle.rule_expand.proofs.set.reach.Given as goal

abbrev pub invariant-loop-k : goal.invariant-loop-k
invariant-loop-k l = record {
  at : (t : ℕ) → IsCountAt (is_due l.rule l.start_day) l.count t l.start_day l.here l.k;
  near : l.here ≤ℤ (l.start_day +ℤ pos (l.k * 146097000));
  high : l.here ≤ℤ l.high;
}
