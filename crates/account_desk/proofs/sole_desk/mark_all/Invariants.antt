use Rattle.std.proofs.Common.{◌≡◌}
use Rattle.account_desk.proofs.sole_desk.mark_all.Given as goal

abbrev pub invariant-loop-account : goal.invariant-loop-account
invariant-loop-account l = l.account-items ≡ l.initial.account-items
