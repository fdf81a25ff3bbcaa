use Rattle.std.proofs.Common.{◌≡◌, map, take}
use Rattle.account_desk.specs.FreshDesk.{bases}
use Rattle.account_desk.proofs.FreshLemmas.{opened}
use Rattle.account_desk.proofs.sole_desk.fresh_accounts.Given as goal

abbrev pub invariant-loop-n : goal.invariant-loop-n
invariant-loop-n l = l.accounts.items ≡ map opened (take l.n (bases l.site))
