-- What comes of a `listen` and the configuration, by the status.
use Rattle.std.proofs.Common.{◌≡◌, Ok, Err, refl}
use mathlib.Core.Logic.{inl, inr}
use Rattle.command_line.specs.Commands.{Listen, listen}
use Rattle.io_edge.specs.Outside.{OpenerShown}
use Rattle.jmapd_listen.specs.Hosts.{HostsShown}
use Rattle.jmapd_listen.specs.Listens.{Listens, ServesTogether, SpawnerShown}
use Rattle.jmapd_run.specs.Shown.{LoadHow}
use Rattle.jmapd_run.specs.Starts.{IsLoaded, misconfigured, not_opened, workers_for}
use Rattle.jmapd_run.specs.declared.status.Status.{Status}
use Rattle.jmapd_run.specs.declared.status.Status.TheVariants.{Config, Cut, Done, NoMemory, OpenFault, ReadFault, Refused, Usage, WriteFault}
use Rattle.spec_site.specs.Configuration.{Site}

module _ (o o' : OpenerShown) (l : Listen) where
  -- there is no site
  pub not_loaded : (h : HostsShown) (s : SpawnerShown) (e : Status) → LoadHow o o' l.config (Err e) → Listens h h s s o o' l e
  not_loaded h s OpenFault how = inl (not_opened, (listen l, l.config, refl, refl, how), (refl, refl))
  not_loaded h s (Config field index) how = inl (misconfigured field index, (listen l, l.config, refl, refl, how), (refl, refl, refl, refl))
  not_loaded h s NoMemory how = inr (refl, refl, refl)
  not_loaded h s Done how = absurd (let bad : Done ≡ NoMemory = how in cc)
  not_loaded h s Refused how = absurd (let bad : Refused ≡ NoMemory = how in cc)
  not_loaded h s Usage how = absurd (let bad : Usage ≡ NoMemory = how in cc)
  not_loaded h s ReadFault how = absurd (let bad : ReadFault ≡ NoMemory = how in cc)
  not_loaded h s WriteFault how = absurd (let bad : WriteFault ≡ NoMemory = how in cc)
  not_loaded h s Cut how = absurd (let bad : Cut ≡ NoMemory = how in cc)

  -- the workers serve the users of the site
  pub served : (h h' : HostsShown) (s s' : SpawnerShown) (site : Site) → IsLoaded o o' l.config (Ok site) → (e : Status) → ServesTogether site l h h' s s' e → Listens h h' s s' o o' l e
  served h h' s s' site loaded e how = inl (workers_for l site, (refl, loaded), how)
