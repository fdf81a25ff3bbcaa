use Rattle.std.proofs.Common.{◌≡◌}
use Rattle.listen_rows.proofs.gated.gated_by.Given as goal

abbrev pub invariant-loop-account : goal.invariant-loop-account
invariant-loop-account l = l.gated.items ≡ l.yielded
