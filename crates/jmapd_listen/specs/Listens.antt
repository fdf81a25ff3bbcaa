-- What the command `listen` does, whatever bytes come on its connections.
use Rattle.std.specs.Prelude.{◌≡◌, ◌⊎◌, ◌*◌, ◌<◌, ℕ, List, [], All, Bool, Some, length, map, slice_get, slice_index_or, sum_by}
use Rattle.account_desk.specs.FreshDesk.{account_rules, bases}
use Rattle.command_line.specs.Commands.{Listen, all_workers, listen}
use Rattle.jmapd_listen.specs.Hosts.{AskedForAll, AskedForSome, AskedInVain, HostsShown, serving_sockets}
use Rattle.listen_workers.specs.Posts.{EndedWorker, PostShown, WorksAt, is_for_sockets}
use Rattle.listen_workers.specs.Working.{Tools}
use Rattle.io_edge.specs.Outside.{OpenerShown, Rose}
use Rattle.jmapd_run.specs.Starts.{IsStart, Start, misconfigured, not_opened, workers_for}
use Rattle.jmapd_run.specs.declared.status.Status.{Status}
use Rattle.jmapd_run.specs.declared.status.Status.TheVariants.{Config, Done, NoMemory, OpenFault}
use Rattle.listen_edge.specs.Ending.{counted, faults_in}
use Rattle.listen_edge.specs.declared.job.WorkerDone.{WorkerDone}
use Rattle.spec_batch.specs.Chain.{Rules, Shown}
use Rattle.spec_history.specs.Base.{no_base}
use Rattle.spec_history.specs.declared.entry.Entry.{Entry}
use Rattle.spec_site.specs.Configuration.{Site}
use Rattle.listen_workers.specs.Crew.{Ends}

-- A worker that was to take so many connections, or handshakes, did, or its post failed: it has calls enough for all.
abbrev pub WorksWhole : Site → ℕ → PostShown → PostShown → Tools → Tools → WorkerDone → Type 0
WorksWhole site most p p' t u done = WorksAt site most p p' t u done × Ends most done

-- of a spawner: how many of its jobs ended as their post failed, and how many connections and handshakes all took
pub record SpawnerShown : Type 0 where
  pub faults : ℕ
  pub served : ℕ

-- These workers ended, each of which had one of these desks at first, and served connections or sockets as is said. The spawner counted how many of their posts failed, and how many
-- connections and handshakes all of them took.
pub record HaveEnded {site : Site} {most : ℕ} (desks : List Shown) (for_sockets : List Bool) (s s' : SpawnerShown) (workers : List (EndedWorker site most)) : Type 0 where
  pub began : map (λ w. w.tools.desk) workers ≡ desks
  pub posted : map (λ w. is_for_sockets w.post) workers ≡ for_sockets
  pub ends : All (λ w. Ends most w.done) workers
  pub faults : s'.faults ≡ counted s.faults (sum_by (λ w. faults_in w.done.end) workers)
  pub served : s'.served ≡ counted s.served (sum_by (λ w. w.done.served) workers)

-- what comes of a `listen` and a site, where workers have these desks: they ended, having taken all their connections and handshakes; or one had no post, or a post failed; or memory
-- ran out before a worker was started
abbrev pub ServesSite : Site → List Shown → Listen → HostsShown → HostsShown → SpawnerShown → SpawnerShown → Status → Type 0
ServesSite site desks l h h' s s' Done =
    AskedForAll l h h' × (s'.faults ≡ counted s.faults 0) × (s'.served ≡ counted s.served (all_workers l * l.connections))
    × ((workers : List (EndedWorker site l.connections)) × HaveEnded desks (serving_sockets l) s s' workers)
ServesSite site desks l h h' s s' OpenFault =
    (AskedInVain l h h' × (s' ≡ s))
    ⊎ (AskedForAll l h h' × Rose s.faults s'.faults × ((workers : List (EndedWorker site l.connections)) × HaveEnded desks (serving_sockets l) s s' workers))
ServesSite site desks l h h' s s' NoMemory = AskedForSome l h h' × (s' ≡ s)
ServesSite site desks l h h' s s' _ = ⊥

-- a desk over the accounts of a site that has made no call
abbrev pub IsUnused : Site → Shown → Type 0
IsUnused site desk = (desk.accounts ≡ length site.accounts) × (desk.turns ≡ 0)

-- the desk of worker n over the accounts of a site, before any call: they answer by these rules and were opened with these entries, and it signs with the worker's number
pub record IsDeskAt (site : Site) (how : Rules) (entries : ℕ → List Entry) (n : ℕ) (desk : Shown) : Type 0 where
  pub unused : IsUnused site desk
  pub rules : desk.rules ≡ how
  pub opened : (k : ℕ) → (desk.base k ≡ slice_index_or (bases site) k no_base) × (desk.seen k ≡ entries k)
  pub author : (k : ℕ) → k < length site.accounts → desk.author k ≡ n
  pub last : (k : ℕ) → desk.last k ≡ 0

-- the desks of so many workers, in order
abbrev pub AreDesksAt : Site → Rules → (ℕ → List Entry) → ℕ → List Shown → Type 0
AreDesksAt site how entries workers desks = (length desks ≡ workers) × ((n : ℕ) (desk : Shown) → slice_get desks n ≡ Some desk → IsDeskAt site how entries n desk)

-- those over the fresh accounts of a site, in memory alone
abbrev pub AreDesksOf : Site → ℕ → List Shown → Type 0
AreDesksOf site workers desks = AreDesksAt site account_rules (λ k. []) workers desks

-- what comes of a `listen` and a site, where workers share its fresh accounts
abbrev pub ServesTogether : Site → Listen → HostsShown → HostsShown → SpawnerShown → SpawnerShown → Status → Type 0
ServesTogether site l h h' s s' status = (desks : List Shown) × AreDesksOf site (all_workers l) desks × ServesSite site desks l h h' s s' status

-- what is shown of hosts and spawner before and after
module _ (h h' : HostsShown) (s s' : SpawnerShown) where
  -- what comes of a start, and with which status
  abbrev pub ListensFrom : Start → Status → Type 0
  ListensFrom not_opened OpenFault = (h' ≡ h) × (s' ≡ s)
  ListensFrom (misconfigured field index) (Config f i) = (f ≡ field) × (i ≡ index) × (h' ≡ h) × (s' ≡ s)
  ListensFrom (workers_for l site) status = ServesTogether site l h h' s s' status
  ListensFrom _ _ = ⊥

  -- A `listen` and the opener come to a start, and from there the workers go on; or memory ran out before a listener was asked for.
  abbrev pub Listens : OpenerShown → OpenerShown → Listen → Status → Type 0
  Listens o o' l status = ((start : Start) × IsStart o o' (Some (listen l)) start × ListensFrom start status) ⊎ ((status ≡ NoMemory) × (h' ≡ h) × (s' ≡ s))
