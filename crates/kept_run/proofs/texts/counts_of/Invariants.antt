use Rattle.std.proofs.Common.{◌≡◌, take}
use Rattle.kept_run.specs.Lines.{counts}
use Rattle.kept_run.proofs.texts.counts_of.Given as goal

abbrev pub invariant-loop-n : goal.invariant-loop-n
invariant-loop-n l = l.counts.items ≡ counts (take l.n l.desk.0)
