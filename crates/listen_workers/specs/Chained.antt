-- What the calls of a worker's connections come to, whatever others do meanwhile.
use Rattle.std.specs.Prelude.{◌≡◌, ◌≢◌, ◌+◌, ◌*◌, ◌≤◌, ℕ, List, All, flat_map, map}
use Rattle.listen_workers.specs.Working.{MAX_CALLS, Tools, Visit, Works}
use Rattle.listen_edge.specs.Listening.{ListenerShown}
use Rattle.listen_edge.specs.declared.job.WorkerDone.{WorkerDone}
use Rattle.spec_batch.specs.Chain.{Chain, Made, Summary, front_of}
use Rattle.spec_connection.specs.declared.served.ConnEnd.TheVariants as end
use Rattle.spec_site.specs.Configuration.{Site}

-- none of these connections ran out of memory or of calls: the desk answered all that it was asked on them
abbrev pub NoneIsCutShort : List Visit → Type 0
NoneIsCutShort visits = All (λ v. (v.back.served.end ≢ end.NoMemory) × (v.back.served.end ≢ end.PassSpent)) visits

-- what a worker's connections asked of the desk is one chain, from the state before the first to that behind the last, and their fronts, joined in order, are its own
abbrev pub CallsAreAChain : Type 0
CallsAreAChain = (site : Site) (connections : ℕ) (l l' : ListenerShown) (t u : Tools) (done : WorkerDone) (w : Works site connections l l' t u done) → NoneIsCutShort w.visits
    → (made : List Made) × Chain t.desk u.desk made × (map front_of made ≡ flat_map (λ v. v.back.served.fronts.items) w.visits)

-- However they ended, the calls that were answered on a worker's connections stand in the histories of its desk's accounts, and no other entry there is the desk's.
-- Their fronts, joined in order, are those of the connections, and the desk made no more calls than so many connections may.
abbrev pub WorkersStandInHistories : Type 0
WorkersStandInHistories = (site : Site) (connections : ℕ) (l l' : ListenerShown) (t u : Tools) (done : WorkerDone) (w : Works site connections l l' t u done)
    → (made : List Made) × Summary t.desk u.desk made × (map front_of made ≡ flat_map (λ v. v.back.served.fronts.items) w.visits) × (u.desk.turns ≤ t.desk.turns + MAX_CALLS * done.served)
