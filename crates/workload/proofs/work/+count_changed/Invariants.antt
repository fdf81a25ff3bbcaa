use Rattle.std.proofs.Common.{◌-◌, length}
use Rattle.workload.proofs.work.+count_changed.Given as goal
use Rattle.workload.specs.Counts.{state_number}

abbrev pub decreases-count_changed : goal.decreases-count_changed
decreases-count_changed g l = length (g.B.Book.entries l.account.now) - state_number l.since
