-- The loop of `rids_of`: the recurrence ids so far.
use Rattle.std.proofs.Common.{◌≡◌, Bool, ℤ}
use Rattle.std.specs.Prelude.{take}
use Rattle.std.specs.List.{list_any}
use Rattle.spec_series.proofs.sorted_exceptions.rids_of.Given as goal

abbrev pub invariant-loop-x : goal.invariant-loop-x
invariant-loop-x l = (p : ℤ → Bool) → list_any p l.rids.items ≡ list_any (λ x. p x.rid) (take l.x-index l.items)
