-- How workers ended, and what is counted of that.
use Rattle.std.specs.Prelude.{ℕ, ◌+◌, ◌-◌, ◌^◌, min}
use Rattle.listen_edge.specs.declared.job.WorkerEnd.{WorkerEnd}
use Rattle.listen_edge.specs.declared.job.WorkerEnd.TheVariants.{AcceptFault, All, PassSpent}

-- a worker that couldn't accept is a fault
abbrev pub faults_in : WorkerEnd → ℕ
faults_in All = 0
faults_in AcceptFault = 1
faults_in PassSpent = 0

-- a count in a u64, which stands at its last value
abbrev pub counted : ℕ → ℕ → ℕ
counted before more = min (before + more) (2 ^ 64 - 1)
