use Rattle.std.proofs.Common.{◌≡◌}
use Rattle.jmapd.proofs.words.behind_name.Given as goal

abbrev pub invariant-loop-word : goal.invariant-loop-word
invariant-loop-word l = l.words.items ≡ l.yielded
