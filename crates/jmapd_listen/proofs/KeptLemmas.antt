-- What comes of a `listen` over accounts that are kept, by its steps.
use Rattle.std.proofs.Common.{◌≡◌, ◌∙◌, ℕ, List, None, Ok, Err, Option, ap, length, map, option_map, refl, sym}
use Rattle.std.proofs.lemmas.List.{length-map}
use Rattle.std.proofs.lemmas.List.Elements.{All-map}
use Rattle.std.proofs.lemmas.Option.{slice_get-get_or, slice_get-map}
use Rattle.std.specs.Prelude.{All}
use mathlib.Core.List.{map-map}
use mathlib.Core.Logic.{inl, inr}
use Rattle.account_desk.specs.FreshDesk.{bases, kept_rules}
use Rattle.account_desk.specs.SharedDesk.{shown_by_passes}
use Rattle.account_lock.specs.Passes.{PassState}
use Rattle.cal_model.specs.GoesOn.{GoesOn}
use Rattle.command_line.specs.Commands.{Listen, all_workers, listen}
use Rattle.io_edge.specs.Outside.{OpenerShown}
use Rattle.jmapd_listen.proofs.DeskLemmas.{are_desks_at}
use Rattle.jmapd_listen.specs.Hosts.{HostsShown}
use Rattle.jmapd_listen.specs.Listens.{IsUnused, ServesSite, SpawnerShown}
use Rattle.jmapd_listen.specs.ListensKept.{ListensKept}
use Rattle.jmapd_listen.specs.Offices.{AreKeptDesks, IsKeptAccount, OfficeShown, OpensNone}
use Rattle.jmapd_run.specs.Shown.{LoadHow}
use Rattle.jmapd_run.specs.Starts.{IsLoaded, misconfigured, not_opened, workers_for}
use Rattle.jmapd_run.specs.declared.kept_status.KeptStatus.{KeptStatus}
use Rattle.jmapd_run.specs.declared.kept_status.KeptStatus.TheVariants.{Plain}
use Rattle.jmapd_run.specs.declared.status.Status.{Status}
use Rattle.jmapd_run.specs.declared.status.Status.TheVariants.{Config, Cut, Done, NoMemory, OpenFault, ReadFault, Refused, Usage, WriteFault}
use Rattle.journal_keeper.specs.Journals.{Kept}
use Rattle.listen_workers.specs.Passes.{ShareAccounts}
use Rattle.spec_batch.specs.Chain.{Shown}
use Rattle.spec_history.specs.Base.{Base}
use Rattle.spec_history.specs.History.{changes_of}
use Rattle.spec_history.specs.declared.entry.Entry.{Entry}
use Rattle.spec_site.specs.Configuration.{Site}

-- ---- the desks of an office

module _ {D : Type 0} (shown : D → Shown) (site : Site) (told : List ℕ → Option Kept) (workers : ℕ) (desks : List D) (kept : AreKeptDesks site told workers (map shown desks)) where
  pub kept_count : length desks ≡ workers
  kept_count = sym (length-map desks shown) ∙ kept.at.0

  pub kept_unused : All (λ desk. IsUnused site (shown desk)) desks
  kept_unused k d within = (kept.at.1 k _ (slice_get-map shown desks k ∙ ap (option_map shown) (slice_get-get_or desks k d within))).unused

-- desks that share accounts whose keepers tell nothing
pub untold_desks : {A : Type 0} (base : A → Base) (entries : A → List Entry) (site : Site) (workers : ℕ) (accounts : List A) (desks : List (List PassState × ℕ)) → map base accounts ≡ bases site
    → All (λ a. GoesOn (base a).zones (changes_of (entries a))) accounts → length desks ≡ workers → ShareAccounts (map (λ a. (base a, entries a)) accounts) desks
    → AreKeptDesks site (λ id. None) workers (map (shown_by_passes kept_rules) desks)
untold_desks base entries site workers accounts desks are go_on many share =
    let these : List (Base × List Entry) = map (λ a. (base a, entries a)) accounts in
    let own : map (λ (a : Base × List Entry). a.0) these ≡ bases site = map-map (λ (a : Base × List Entry). a.0) (λ a. (base a, entries a)) accounts ∙ are in
    record {
      accounts = these;
      bases = own;
      kept = All-map (IsKeptAccount (λ id. None)) (λ a. (base a, entries a)) accounts (λ k d within. record { listed = tt; goes_on = go_on k d within });
      at = are_desks_at site kept_rules workers these desks own many share;
    }

-- ---- how it ends

module _ (o o' : OpenerShown) (l : Listen) where
  -- there is no site
  pub none_loaded : (f : OfficeShown) (h : HostsShown) (s : SpawnerShown) (e : Status) → LoadHow o o' l.config (Err e) → ListensKept f f h h s s o o' l (Plain e)
  none_loaded f h s OpenFault how = inl (not_opened, (listen l, l.config, refl, refl, how), (refl, refl, refl))
  none_loaded f h s (Config field index) how = inl (misconfigured field index, (listen l, l.config, refl, refl, how), (refl, refl, refl, refl, refl))
  none_loaded f h s NoMemory how = inr (refl, refl, refl)
  none_loaded f h s Done how = absurd (let bad : Done ≡ NoMemory = how in cc)
  none_loaded f h s Refused how = absurd (let bad : Refused ≡ NoMemory = how in cc)
  none_loaded f h s Usage how = absurd (let bad : Usage ≡ NoMemory = how in cc)
  none_loaded f h s ReadFault how = absurd (let bad : ReadFault ≡ NoMemory = how in cc)
  none_loaded f h s WriteFault how = absurd (let bad : WriteFault ≡ NoMemory = how in cc)
  none_loaded f h s Cut how = absurd (let bad : Cut ≡ NoMemory = how in cc)

  module _ (f f' : OfficeShown) (site : Site) (loaded : IsLoaded o o' l.config (Ok site)) where
    -- an account doesn't open
    pub none_opened : (h : HostsShown) (s : SpawnerShown) (status : KeptStatus) → OpensNone site f f' status → ListensKept f f' h h s s o o' l status
    none_opened h s status refused = inl (workers_for l site, (refl, loaded), inl (refused, refl, refl))

    -- the workers serve the users of the site
    pub kept_served : (h h' : HostsShown) (s s' : SpawnerShown) (desks : List Shown) → AreKeptDesks site f.told (all_workers l) desks → (e : Status) → ServesSite site desks l h h' s s' e → ListensKept f f' h h' s s' o o' l (Plain e)
    kept_served h h' s s' desks kept e serves = inl (workers_for l site, (refl, loaded), inr (record { desks = desks; kept = kept; plainly = e; status_is = refl; serves = serves }))
