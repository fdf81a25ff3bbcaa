use Rattle.std.specs.Prelude.{◌≡◌, ◌++◌, drop}
use Rattle.availability.specs.Merging.{joined_from}
use Rattle.availability.proofs.periods.joined.Given as goal

abbrev pub invariant-loop-span : goal.invariant-loop-span
invariant-loop-span l = l.runs.items ++ joined_from l.last (drop l.span-index l.others) ≡ joined_from l.initial.last l.others
