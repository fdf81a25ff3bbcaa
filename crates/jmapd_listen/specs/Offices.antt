-- What contracts see of an office, and the desks over the accounts that it opens.
use Rattle.std.specs.Prelude.{◌≡◌, ℕ, List, All, Option, Some, None, map, ⊤}
use Rattle.account_desk.specs.FreshDesk.{bases, kept_rules}
use Rattle.account_desk.specs.SoleDesk.{account_at}
use Rattle.cal_model.specs.GoesOn.{GoesOn}
use Rattle.io_edge.specs.Outside.{Rose}
use Rattle.jmapd_listen.specs.Listens.{AreDesksAt}
use Rattle.jmapd_run.specs.declared.status.Status.TheVariants as plain
use Rattle.journal_keeper.specs.EntryText.{IsNoEntryText}
use Rattle.journal_keeper.specs.Journals.{HasDamage, Kept, Lists}
use Rattle.jmapd_run.specs.SiteIds.{HasId}
use Rattle.jmapd_run.specs.declared.kept_status.KeptStatus.{KeptStatus}
use Rattle.jmapd_run.specs.declared.kept_status.KeptStatus.TheVariants.{BadJournal, Damaged, KeepFault, Plain}
use Rattle.spec_batch.specs.Chain.{Shown}
use Rattle.spec_history.specs.Base.{Base}
use Rattle.spec_history.specs.History.{changes_of}
use Rattle.spec_history.specs.declared.entry.Entry.{Entry}
use Rattle.spec_site.specs.Configuration.{Site}

-- what the keeper of each account has, by the account's id and where it tells that, and the counts of faults and of damages
pub record OfficeShown : Type 0 where
  pub told : List ℕ → Option Kept
  pub faults : ℕ
  pub damages : ℕ

-- an account has just the entries that its keeper has of it, from which it goes on
pub record IsKeptAccount (told : List ℕ → Option Kept) (a : Base × List Entry) : Type 0 where
  pub listed : Lists (told a.0.account_id) a.0.account_id a.1
  pub goes_on : GoesOn a.0.zones (changes_of a.1)

-- the desks of so many workers over the accounts of a site, each of which goes on from what its keeper has of it
pub record AreKeptDesks (site : Site) (told : List ℕ → Option Kept) (workers : ℕ) (desks : List Shown) : Type 0 where
  pub accounts : List (Base × List Entry)
  pub bases : map (λ a. a.0) accounts ≡ bases site
  pub kept : All (IsKeptAccount told) accounts
  pub at : AreDesksAt site kept_rules (λ k. (account_at accounts k).1) workers desks

-- why the accounts of a site don't open
module _ (site : Site) (o o' : OfficeShown) where
  abbrev pub OpensNone : KeptStatus → Type 0
  OpensNone KeepFault = Rose o.faults o'.faults
  OpensNone (Plain plain.OpenFault) = Rose o.faults o'.faults
  OpensNone (Damaged account place text) = HasId site account × IsNoEntryText text.items × HasDamage (o.told account) account place text.items × Rose o.damages o'.damages
  OpensNone (BadJournal account kind n) = HasId site account × ((list : List Entry) × Lists (o.told account) account list × (GoesOn site.zones (changes_of list) → ⊥))
  OpensNone (Plain plain.NoMemory) = ⊤
  OpensNone _ = ⊥
