-- The loop of `first_overflow`: none of the days so far is the last of a month that overflows.
use Rattle.std.specs.Prelude.{◌≡◌, ◌≤ℤ◌, ◌<ℤ◌, ◌+ℤ◌, ℤ, pos, false}
use Rattle.std.specs.Int.{int_gap}
use Rattle.spec_series.specs.RuleSets.{is_overflow}
use Rattle.rule_expand.proofs.moved.first_overflow.Given as goal

abbrev pub invariant-loop-at : goal.invariant-loop-at
invariant-loop-at l = record {
  low : l.from ≤ℤ l.at.day;
  high : l.at.day ≤ℤ (l.from +ℤ pos 431);
  none : (n : ℤ) → l.from ≤ℤ n → n <ℤ l.at.day → is_overflow l.rule n ≡ false;
}

abbrev pub decreases-loop-at : goal.decreases-loop-at
decreases-loop-at l = int_gap l.at.day (l.last +ℤ pos 1)
