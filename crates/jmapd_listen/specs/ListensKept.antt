-- What `listen` does over accounts whose entries are kept, whatever bytes come on its connections.
use Rattle.std.specs.Prelude.{◌≡◌, ◌⊎◌, List, Some}
use Rattle.command_line.specs.Commands.{Listen, all_workers, listen}
use Rattle.io_edge.specs.Outside.{OpenerShown}
use Rattle.jmapd_listen.specs.Hosts.{HostsShown}
use Rattle.jmapd_listen.specs.Listens.{ServesSite, SpawnerShown}
use Rattle.jmapd_run.specs.Starts.{IsStart, Start, misconfigured, not_opened, workers_for}
use Rattle.jmapd_run.specs.declared.status.Status.{Status}
use Rattle.jmapd_run.specs.declared.status.Status.TheVariants.{Config, NoMemory, OpenFault}
use Rattle.jmapd_listen.specs.Offices.{AreKeptDesks, OpensNone, OfficeShown}
use Rattle.jmapd_run.specs.declared.kept_status.KeptStatus.{KeptStatus}
use Rattle.jmapd_run.specs.declared.kept_status.KeptStatus.TheVariants.{Plain}
use Rattle.spec_batch.specs.Chain.{Shown}
use Rattle.spec_site.specs.Configuration.{Site}

-- what is shown of office, hosts and spawner before and after
module _ (f f' : OfficeShown) (h h' : HostsShown) (s s' : SpawnerShown) where
  -- The workers share the accounts of the site, each of which goes on from what its keeper has of it.
  pub record ServesKept (l : Listen) (site : Site) (status : KeptStatus) : Type 0 where
    pub desks : List Shown
    pub kept : AreKeptDesks site f.told (all_workers l) desks
    pub plainly : Status
    pub status_is : status ≡ Plain plainly
    pub serves : ServesSite site desks l h h' s s' plainly

  -- An account doesn't open: then no listener is asked for.
  abbrev pub DoesNotOpen : Site → KeptStatus → Type 0
  DoesNotOpen site status = OpensNone site f f' status × (h' ≡ h) × (s' ≡ s)

  -- what comes of a start, and with which status
  abbrev pub KeptFrom : Start → KeptStatus → Type 0
  KeptFrom not_opened (Plain OpenFault) = (f' ≡ f) × (h' ≡ h) × (s' ≡ s)
  KeptFrom (misconfigured field index) (Plain (Config g i)) = (g ≡ field) × (i ≡ index) × (f' ≡ f) × (h' ≡ h) × (s' ≡ s)
  KeptFrom (workers_for l site) status = DoesNotOpen site status ⊎ ServesKept l site status
  KeptFrom _ _ = ⊥

  -- A `listen` and the opener come to a start, and from there the workers go on; or memory ran out before a listener was asked for.
  abbrev pub ListensKept : OpenerShown → OpenerShown → Listen → KeptStatus → Type 0
  ListensKept o o' l status = ((start : Start) × IsStart o o' (Some (listen l)) start × KeptFrom start status) ⊎ ((status ≡ Plain NoMemory) × (h' ≡ h) × (s' ≡ s))
