-- The loop of `given_by`: what the exceptions so far give.
use Rattle.std.proofs.Common.{◌≡◌, Bool}
use Rattle.std.specs.Prelude.{take}
use Rattle.std.specs.List.{list_any}
use Rattle.spec_series.specs.Given.{gives_one}
use Rattle.spec_series.specs.declared.occurrence.Occurrence.{Occurrence}
use Rattle.spec_series.proofs.sorted_exceptions.given_by.Given as goal

abbrev pub invariant-loop-x : goal.invariant-loop-x
invariant-loop-x l = (p : Occurrence → Bool) → list_any p l.given.items ≡ list_any (gives_one p) (take l.x-index l.items)
