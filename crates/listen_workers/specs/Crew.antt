-- How workers ended that ran at the same time.
use Rattle.std.specs.Prelude.{◌≡◌, ◌⊎◌, ℕ, Bool, true, false}
use Rattle.listen_edge.specs.declared.job.WorkerDone.{WorkerDone}
use Rattle.listen_edge.specs.declared.job.WorkerEnd.{WorkerEnd}
use Rattle.listen_edge.specs.declared.job.WorkerEnd.TheVariants.{AcceptFault, All, PassSpent}

abbrev pub is_all : WorkerEnd → Bool
is_all All = true
is_all AcceptFault = false
is_all PassSpent = false

-- a worker served as many connections as it was to, or its listener failed
abbrev pub Ends : ℕ → WorkerDone → Type 0
Ends connections done = ((done.end ≡ All) × (done.served ≡ connections)) ⊎ (done.end ≡ AcceptFault)
