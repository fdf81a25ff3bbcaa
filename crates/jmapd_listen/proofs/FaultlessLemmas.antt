-- A `listen` in which nothing fails serves.
use Rattle.std.proofs.Common.{◌≡◌, ℕ, List, Option, Some, None, Result, Ok, Err, refl, sym, ap, ◌∙◌, subst}
use Rattle.std.proofs.lemmas.Option.{same_Some}
use Rattle.std.specs.Prelude.{◌⊎◌}
use mathlib.Core.Logic.{inl, inr}
use Rattle.command_line.specs.Commands.{Command, Listen, batch, listen, stdio, workload}
use Rattle.io_edge.specs.Outside.{OpenerShown}
use Rattle.jmapd_run.proofs.Accepted.{comes_to, is_there, never, only_site}
use Rattle.jmapd_run.specs.Completes.{IsAccepted}
use Rattle.jmapd_run.specs.Starts.{IsLoaded, IsNotOpened, IsStart, Start, batch_for, configuration_of, misconfigured, not_opened, stdio_of, usage, workers_for, workload_by}
use Rattle.jmapd_run.specs.declared.status.Status.{Status}
use Rattle.jmapd_run.specs.declared.status.Status.TheVariants.{Config, Cut, Done, NoMemory, OpenFault, ReadFault, Refused, Usage, WriteFault}
use Rattle.spec_batch.specs.Chain.{Shown}
use Rattle.spec_site.specs.Configuration.{Fault, Site}
use Rattle.jmapd_listen.specs.Faultless.{FaultlessListensServe, NoneFailed}
use Rattle.jmapd_listen.specs.Hosts.{HostsShown}
use Rattle.jmapd_listen.specs.Listens.{ListensFrom, ServesSite, ServesTogether, SpawnerShown}

-- the `listen` that is asked, or else this one
abbrev asked_of : Listen → Option Command → Listen
asked_of d (Some (listen l)) = l
asked_of d (Some (batch config user)) = d
asked_of d (Some (stdio config)) = d
asked_of d (Some (workload number size)) = d
asked_of d None = d

module _ (o o' : OpenerShown) (h h' : HostsShown) (s s' : SpawnerShown) (fine : NoneFailed o o' h h' s s') (l : Listen) (site : Site) (accepted : IsAccepted (Some l.config) o site) where
  opens : IsNotOpened o o' l.config → ⊥
  opens (inl missing) = is_there o o' l.config site accepted missing
  opens (inr rose) = fine.opened rose

  serves : (other : Site) (desks : List Shown) → ServesSite other desks l h h' s s' OpenFault → ⊥
  serves other desks (inl (inl made, same)) = fine.made made.1
  serves other desks (inl (inr made, same)) = fine.made_for_sockets made.2
  serves other desks (inr joined) = fine.joined joined.1

  of_site : (k : Listen) (other : Site) (status : Status) → k ≡ l → other ≡ site → ServesTogether other k h h' s s' status → (status ≡ NoMemory) ⊎ ((status ≡ Done) × ServesTogether site l h h' s s' Done)
  of_site k other Done is same how = inr (refl, coe 0 1 (i. ServesTogether (same i) (is i) h h' s s' Done) how)
  of_site k other OpenFault is same how = absurd (serves other how.0 (subst (λ (j : Listen). ServesSite other how.0 j h h' s s' OpenFault) is how.2))
  of_site k other NoMemory is same how = inl refl
  of_site k other (Config field index) is same how = absurd how.2
  of_site k other Usage is same how = absurd how.2
  of_site k other Refused is same how = absurd how.2
  of_site k other ReadFault is same how = absurd how.2
  of_site k other WriteFault is same how = absurd how.2
  of_site k other Cut is same how = absurd how.2

  -- the name that a command names is the one that is asked
  named : (c : Command) (name : List ℕ) → Some (listen l) ≡ Some c → configuration_of c ≡ Some name → name ≡ l.config
  named c name is names =
      let same : listen l ≡ c = same_Some (listen l) c is in
      same_Some name l.config (sym names ∙ ap configuration_of (sym same))

  of_start : (start : Start) (status : Status) → IsStart o o' (Some (listen l)) start → ListensFrom h h' s s' start status → (status ≡ NoMemory) ⊎ ((status ≡ Done) × ServesTogether site l h h' s s' Done)
  of_start not_opened status is from = absurd (opens (subst (IsNotOpened o o') (named is.0 is.1 is.2 is.3) is.4))
  of_start (misconfigured field index) status is from =
      let what : Result Site Fault = Err (record { field = field; index = index }) in
      absurd (never (record { field = field; index = index }) site what refl (comes_to o o' l.config site accepted what (subst (λ (n : List ℕ). IsLoaded o o' n what) (named is.0 is.1 is.2 is.3) is.4)))
  of_start (workers_for k other) status is from =
      let same : k ≡ l = sym (ap (asked_of l) is.0) in
      let loaded = subst (λ (j : Listen). IsLoaded o o' j.config (Ok other)) same is.1 in
      of_site k other status same (only_site other site (Ok other) refl (comes_to o o' l.config site accepted (Ok other) loaded)) from
  of_start usage status is from = absurd from
  of_start (batch_for other user) status is from = absurd from
  of_start (stdio_of other) status is from = absurd from
  of_start (workload_by number size) status is from = absurd from

pub faultless_listens_serve : FaultlessListensServe
faultless_listens_serve o o' h h' s s' l status (inr e) fine site accepted = inl e.0
faultless_listens_serve o o' h h' s s' l status (inl r) fine site accepted = of_start o o' h h' s s' fine l site accepted r.0 status r.1 r.2
