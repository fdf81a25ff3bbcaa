-- Workers of either kind: each stands at a listener of connections, or at what hands out links of sockets.
use Rattle.std.specs.Prelude.{◌≡◌, ℕ, List, Bool, true, false, flat_map, map}
use Rattle.listen_edge.specs.Listening.{ListenerShown}
use Rattle.listen_edge.specs.declared.job.WorkerDone.{WorkerDone}
use Rattle.listen_workers.specs.SocketWork.{WorksOnSockets}
use Rattle.listen_workers.specs.Working.{Tools, Works}
use Rattle.spec_batch.specs.Chain.{Made, front_of}
use Rattle.spec_batch.specs.declared.desk.Front.{Front}
use Rattle.spec_site.specs.Configuration.{Site}
use Rattle.spec_sockets.specs.Turns.{Turn, made_for_texts, made_in_turns}
use Rattle.ws_edge.specs.Accepting.{AcceptShown}

-- what is shown of where a worker stands
pub data PostShown : Type 0 where
  connections : ListenerShown → PostShown
  sockets : AcceptShown → PostShown

abbrev pub is_for_sockets : PostShown → Bool
is_for_sockets (connections l) = false
is_for_sockets (sockets a) = true

-- a worker that was to take so many connections, or handshakes, served them as its post has them
abbrev pub WorksAt : Site → ℕ → PostShown → PostShown → Tools → Tools → WorkerDone → Type 0
WorksAt site most (connections l) (connections l') t u done = Works site most l l' t u done
WorksAt site most (sockets a) (sockets a') t u done = WorksOnSockets site most a a' t u done
WorksAt site most (connections l) (sockets a') t u done = ⊥
WorksAt site most (sockets a) (connections l') t u done = ⊥

-- the fronts of its connections, or of its sockets, joined in order
abbrev pub fronts_at : (site : Site) (most : ℕ) (p p' : PostShown) (t u : Tools) (done : WorkerDone) → WorksAt site most p p' t u done → List Front
fronts_at site most (connections l) (connections l') t u done w = flat_map (λ v. v.back.served.fronts.items) w.visits
fronts_at site most (sockets a) (sockets a') t u done w = flat_map (λ v. v.back.served.fronts.items) w.hosts.visits
fronts_at site most (connections l) (sockets a') t u done w = absurd w
fronts_at site most (sockets a) (connections l') t u done w = absurd w

-- Calls with these fronts: all calls on connections have one; of the calls of the turns of sockets those for texts have, and those of looks have none.
abbrev pub AreCallsAt : PostShown → List Front → List Made → Type 0
AreCallsAt (connections l) fronts made = map front_of made ≡ fronts
AreCallsAt (sockets a) fronts made = (turns : List Turn) × (made ≡ made_in_turns turns) × (map front_of (made_for_texts turns) ≡ fronts)

-- a worker that ended: what is shown of its post, and of its clock and desk, before and after
pub record EndedWorker (site : Site) (most : ℕ) : Type 0 where
  pub post : PostShown
  pub post' : PostShown
  pub tools : Tools
  pub tools' : Tools
  pub done : WorkerDone
  pub works : WorksAt site most post post' tools tools' done

abbrev pub fronts_of : {site : Site} {most : ℕ} → EndedWorker site most → List Front
fronts_of {site} {most} w = fronts_at site most w.post w.post' w.tools w.tools' w.done w.works

-- calls with the fronts of its connections, or of its sockets
abbrev pub AreCallsOf : {site : Site} {most : ℕ} → EndedWorker site most → List Made → Type 0
AreCallsOf w made = AreCallsAt w.post (fronts_of w) made
