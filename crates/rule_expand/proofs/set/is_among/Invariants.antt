use Rattle.std.specs.Prelude.{◌*◌, ◌+ℤ◌, ◌<ℤ◌, ◌≤ℤ◌, ℕ, pos}
use Rattle.spec_series.specs.RuleSets.{is_due}
use Rattle.rule_expand.specs.Sets.{IsCountAt}
use Rattle.rule_expand.proofs.set.is_among.Given as goal

abbrev pub invariant-loop-place : goal.invariant-loop-place
invariant-loop-place l = record {
  at : (t : ℕ) → IsCountAt (is_due l.rule l.start_day) l.count t l.start_day l.here l.place;
  before : l.here <ℤ l.day;
  near : l.here ≤ℤ (l.start_day +ℤ pos (l.place * 146097000));
}
