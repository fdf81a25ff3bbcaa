-- A run in which nothing fails serves its sockets.
use Rattle.std.proofs.Common.{◌≡◌, ℕ, ℤ, Option, Some, Result, Ok, Err, inl, inr, refl, subst, arith}
use Rattle.std.specs.Prelude.{◌⊎◌}
use Rattle.command_line.specs.WebsocketWords.{Websocket}
use Rattle.io_edge.specs.Outside.{OpenerShown, Rose}
use Rattle.jmapd_run.proofs.Accepted.{comes_to, is_there, never, only_site}
use Rattle.jmapd_run.specs.Completes.{IsAccepted}
use Rattle.jmapd_run.specs.Starts.{IsNotOpened}
use Rattle.jmapd_run.specs.declared.status.Status.{Status}
use Rattle.jmapd_run.specs.declared.status.Status.TheVariants.{Config, Cut, Done, NoMemory, OpenFault, ReadFault, Refused, Usage, WriteFault}
use Rattle.spec_site.specs.Configuration.{Fault, Site}
use Rattle.ws_edge.specs.Accepting.{AcceptShown}
use Rattle.ws_run.specs.Faultless.{FaultlessRunsHost, NeitherFailed}
use Rattle.ws_run.specs.Runs.{HasHosted, HostsSite, HostNotBegun}
use Rattle.ws_serve.specs.declared.host.HostEnd.TheVariants.{AcceptFault, All}

module _ (w : Websocket) (o o' : OpenerShown) (a a' : AcceptShown) (c c' : Option (ℕ → ℤ)) (fine : NeitherFailed o o' a a') (site : Site) (accepted : IsAccepted (Some w.config) o site) where
  opens : IsNotOpened o o' w.config → ⊥
  opens (inl missing) = is_there o o' w.config site accepted missing
  opens (inr rose) = fine.opened rose

  begins : (e : Status) → HostNotBegun w o o' e → e ≡ NoMemory
  begins OpenFault how = absurd (opens how)
  begins (Config field index) how =
      let what : Result Site Fault = Err (record { field = field; index = index }) in
      absurd (never (record { field = field; index = index }) site what refl (comes_to o o' w.config site accepted what how))
  begins NoMemory how = refl
  begins Done how = how
  begins Refused how = how
  begins Usage how = how
  begins ReadFault how = how
  begins WriteFault how = how
  begins Cut how = how

  -- what accepts sockets failed
  failed : HasHosted a a' c c' site w AcceptFault → ⊥
  failed h = fine.accepted (let later = h.later in let rose : Rose h.opened.faults a'.faults = h.hosts.how in omega (arith, later, rose))

  of_site : (e : Status) → HostsSite a a' c c' site w e → (e ≡ NoMemory) ⊎ ((e ≡ Done) × HasHosted a a' c c' site w All)
  of_site Done how = inr (refl, how)
  of_site OpenFault (inl vain) = absurd (fine.accepted vain.1)
  of_site OpenFault (inr hosted) = absurd (failed hosted)
  of_site NoMemory how = inl refl
  of_site (Config field index) how = absurd how
  of_site Usage how = absurd how
  of_site Refused how = absurd how
  of_site ReadFault how = absurd how
  of_site WriteFault how = absurd how
  of_site Cut how = absurd how

pub faultless_runs_host : FaultlessRunsHost
faultless_runs_host w o o' a a' c c' status (inl r) fine site accepted = inl (begins w o o' a a' c c' fine site accepted status r.0)
faultless_runs_host w o o' a a' c c' status (inr r) fine site accepted =
    let same = only_site r.0 site (Ok r.0) refl (comes_to o o' w.config site accepted (Ok r.0) r.1) in
    of_site w o o' a a' c c' fine site accepted status (subst (λ (y : Site). HostsSite a a' c c' y w status) same r.2)
