-- What comes of the command and the configuration, by the status.
use Rattle.std.proofs.Common.{◌≡◌, ℕ, ℤ, Option, Err, inl, refl, subst, ◌≤◌}
use Rattle.account_desk.specs.FreshDesk.{fresh_desk}
use Rattle.command_line.specs.WebsocketWords.{Websocket}
use Rattle.io_edge.specs.Outside.{OpenerShown}
use Rattle.jmapd_run.specs.Shown.{LoadHow}
use Rattle.jmapd_run.specs.declared.status.Status.{Status}
use Rattle.jmapd_run.specs.declared.status.Status.TheVariants.{Config, Cut, Done, NoMemory, OpenFault, ReadFault, Refused, Usage, WriteFault}
use Rattle.spec_batch.specs.Chain.{Shown}
use Rattle.spec_site.specs.Configuration.{Site}
use Rattle.ws_edge.specs.Accepting.{AcceptShown, Opens}
use Rattle.ws_serve.specs.Hosting.{HostsSockets}
use Rattle.ws_run.specs.Runs.{HasHosted, HostNotBegun, RunsSockets}
use Rattle.ws_serve.specs.declared.host.HostEnd.{HostEnd}

module _ (w : Websocket) (o o' : OpenerShown) where
  not_begun : (e : Status) → LoadHow o o' w.config (Err e) → HostNotBegun w o o' e
  not_begun OpenFault how = how
  not_begun (Config field index) how = how
  not_begun NoMemory how = refl
  not_begun Done how = absurd (let bad : Done ≡ NoMemory = how in cc)
  not_begun Refused how = absurd (let bad : Refused ≡ NoMemory = how in cc)
  not_begun Usage how = absurd (let bad : Usage ≡ NoMemory = how in cc)
  not_begun ReadFault how = absurd (let bad : ReadFault ≡ NoMemory = how in cc)
  not_begun WriteFault how = absurd (let bad : WriteFault ≡ NoMemory = how in cc)
  not_begun Cut how = absurd (let bad : Cut ≡ NoMemory = how in cc)

  -- there is no site
  pub not_loaded : (a : AcceptShown) (c : Option (ℕ → ℤ)) (e : Status) → LoadHow o o' w.config (Err e) → RunsSockets w o o' a a c c e
  not_loaded a c e how = inl (not_begun e how, refl, refl)

-- sockets were served on fresh accounts
pub has_hosted : {site : Site} {w : Websocket} {a b a' : AcceptShown} {c c' : Option (ℕ → ℤ)} {d d' : Shown} {e : HostEnd} → Opens a b w.port → b.sockets ≡ a.sockets → b.asked ≡ a.asked → a.faults ≤ b.faults
    → d ≡ fresh_desk site → HostsSockets site w.connections b a' (record { clock = c; desk = d }) (record { clock = c'; desk = d' }) e → HasHosted a a' c c' site w e
has_hosted {site} {w} {a} {b} {a'} {c} {c'} {d} {d'} {e} opens same unasked later fresh hosts = record {
  opened = b;
  opens = opens;
  same = same;
  unasked = unasked;
  later = later;
  desk = d';
  hosts = subst (λ (y : Shown). HostsSockets site w.connections b a' (record { clock = c; desk = y }) (record { clock = c'; desk = d' }) e) fresh hosts;
}
