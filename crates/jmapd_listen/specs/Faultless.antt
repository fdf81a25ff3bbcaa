-- What comes of a `listen` in which nothing fails.
use Rattle.std.specs.Prelude.{◌≡◌, ◌⊎◌, Some}
use Rattle.command_line.specs.Commands.{Listen}
use Rattle.io_edge.specs.Outside.{OpenerShown, Rose}
use Rattle.jmapd_run.specs.Completes.{IsAccepted}
use Rattle.jmapd_run.specs.declared.status.Status.{Status}
use Rattle.jmapd_run.specs.declared.status.Status.TheVariants.{Done, NoMemory}
use Rattle.spec_site.specs.Configuration.{Site}
use Rattle.jmapd_listen.specs.Hosts.{HostsShown}
use Rattle.jmapd_listen.specs.Listens.{Listens, ServesTogether, SpawnerShown}

-- neither opener, hosts nor spawner failed
pub record NoneFailed (o o' : OpenerShown) (h h' : HostsShown) (s s' : SpawnerShown) : Type 0 where
  pub opened : Rose o.faults o'.faults → ⊥
  pub made : Rose h.connections.faults h'.connections.faults → ⊥
  pub made_for_sockets : Rose h.sockets.faults h'.sockets.faults → ⊥
  pub joined : Rose s.faults s'.faults → ⊥

abbrev pub FaultlessListensServe : Type 0
FaultlessListensServe = (o o' : OpenerShown) (h h' : HostsShown) (s s' : SpawnerShown) (l : Listen) (status : Status) → Listens h h' s s' o o' l status → NoneFailed o o' h h' s s'
    → (site : Site) → IsAccepted (Some l.config) o site → (status ≡ NoMemory) ⊎ ((status ≡ Done) × ServesTogether site l h h' s s' Done)
