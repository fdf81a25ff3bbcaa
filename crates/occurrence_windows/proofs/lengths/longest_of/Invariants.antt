use Rattle.std.specs.Prelude.{◌≡◌, ℕ, ◌≤◌, ◌<◌, true, Some, slice_get}
use Rattle.spec_series.specs.declared.exception.Exception.{Exception}
use Rattle.occurrence_windows.specs.Bounds.{lasts_up_to}
use Rattle.occurrence_windows.proofs.lengths.longest_of.Given as goal

abbrev pub invariant-loop-x : goal.invariant-loop-x
invariant-loop-x l = record {
  own : l.fn.own ≤ l.best;
  size : l.best ≤ 31622400;
  all : (k : ℕ) (x : Exception) → k < l.x-index → slice_get l.exceptions k ≡ Some x → lasts_up_to l.best x.replaced ≡ true;
}
