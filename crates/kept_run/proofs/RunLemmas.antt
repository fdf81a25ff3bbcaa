-- From the words on.
use Rattle.std.proofs.Common.{◌≡◌, ℕ, List, Option, Some, None, Ok, Err, inl, inr, length, refl, sym, ap, ◌∙◌, subst}
use Rattle.command_line.specs.KeptWords.{KeptCommand}
use Rattle.io_edge.specs.Outside.{OpenerShown}
use Rattle.jmapd_run.specs.Shown.{LoadHow}
use Rattle.jmapd_run.specs.Starts.{IsLoaded, IsUser}
use Rattle.jmapd_run.specs.declared.status.Status.{Status}
use Rattle.jmapd_run.specs.declared.status.Status.TheVariants.{Config, Cut, Done, NoMemory, OpenFault, ReadFault, Refused, Usage, WriteFault}
use Rattle.journal_keeper.specs.Journals.{KeeperShown, Kept}
use Rattle.kept_run.proofs.StartLemmas.{count_opened, loads_none}
use Rattle.kept_run.specs.Lines.{Accounts}
use Rattle.kept_run.specs.Opened.{AreOpened}
use Rattle.kept_run.specs.Runs.{NotBegun, RunsKept, RunsLines, KeptSetting}
use Rattle.kept_run.specs.Steps.{IsDone, IsLoad, NotOpened}
use Rattle.kept_run.specs.declared.status.KeptDone.{KeptDone}
use Rattle.jmapd_run.specs.declared.kept_status.KeptStatus.{KeptStatus}
use Rattle.jmapd_run.specs.declared.kept_status.KeptStatus.TheVariants.{BadJournal, Damaged, ForeignJournal, KeepFault, Plain}
use Rattle.spec_history.specs.Base.{Base}
use Rattle.spec_history.specs.declared.entry.Entry.{Entry}
use Rattle.spec_site.specs.Configuration.{Site, user_named}

-- the setting behind the loads
abbrev pub with_keeper : KeptSetting → KeeperShown → KeptSetting
with_keeper x j = record { source = x.source; sink = x.sink; clock = x.clock; keeper = j }

module _ (asked : KeptCommand) (o o' : OpenerShown) (x : KeptSetting) where
  not_begun_so : (j : KeeperShown) (done : KeptDone) (status : KeptStatus) → IsLoad x.keeper j → IsDone status 0 0 done → NotBegun asked o o' x (with_keeper x j) status → RunsKept asked o o' x (with_keeper x j) done
  not_begun_so j done status load is how = inl (
    record {
      source = refl;
      sink = refl;
      clock = refl;
      told = load.told;
      keeper_later = load.faults;
      damages_later = load.damages;
      none_kept = is.kept;
      none_written = is.written;
    },
    subst (NotBegun asked o o' x (with_keeper x j)) (sym is.status) how,
  )

  pub without_site : (e : Status) → LoadHow o o' asked.config (Err e) → NotBegun asked o o' x x (Plain e)
  without_site OpenFault how = how
  without_site (Config field index) how = how
  without_site NoMemory how = tt
  without_site Done how = absurd (let e : Done ≡ NoMemory = how in cc)
  without_site Refused how = absurd (let e : Refused ≡ NoMemory = how in cc)
  without_site Usage how = absurd (let e : Usage ≡ NoMemory = how in cc)
  without_site ReadFault how = absurd (let e : ReadFault ≡ NoMemory = how in cc)
  without_site WriteFault how = absurd (let e : WriteFault ≡ NoMemory = how in cc)
  without_site Cut how = absurd (let e : Cut ≡ NoMemory = how in cc)

  -- the configuration isn't loaded, or refused
  pub no_site : (done : KeptDone) (e : Status) → LoadHow o o' asked.config (Err e) → IsDone (Plain e) 0 0 done → RunsKept asked o o' x x done
  no_site done e how is = not_begun_so x.keeper done (Plain e) (loads_none x.keeper) is (without_site e how)

  module _ (site : Site) (loaded : IsLoaded o o' asked.config (Ok site)) where
    -- there is no user of the name
    pub no_user : (done : KeptDone) → (name : List ℕ) × (asked.user ≡ Some name) × (user_named site name ≡ None) → IsDone (Plain Usage) 0 0 done → RunsKept asked o o' x x done
    no_user done none is = not_begun_so x.keeper done (Plain Usage) (loads_none x.keeper) is (none.0, site, none.1, loaded, none.2)

    module _ (j : KeeperShown) (load : IsLoad x.keeper j) where
      pub without_accounts : (e : KeptStatus) → NotOpened site x.keeper j e → NotBegun asked o o' x (with_keeper x j) e
      without_accounts KeepFault how = how
      without_accounts (Damaged account place text) how = (site, loaded, how.0, how.1, how.2, how.3)
      without_accounts (ForeignJournal account place) how = (site, loaded, how)
      without_accounts (BadJournal account kind number) how = (site, loaded, how)
      without_accounts (Plain NoMemory) how = tt
      without_accounts (Plain Done) how = absurd how
      without_accounts (Plain Refused) how = absurd how
      without_accounts (Plain Usage) how = absurd how
      without_accounts (Plain (Config field index)) how = absurd how
      without_accounts (Plain ReadFault) how = absurd how
      without_accounts (Plain WriteFault) how = absurd how
      without_accounts (Plain OpenFault) how = absurd how
      without_accounts (Plain Cut) how = absurd how

      -- an account doesn't open
      pub no_accounts : (done : KeptDone) (e : KeptStatus) → NotOpened site x.keeper j e → IsDone e 0 0 done → RunsKept asked o o' x (with_keeper x j) done
      no_accounts done e how is = not_begun_so j done e load is (without_accounts e how)

      -- the lines were run
      pub lines_run : (user : ℕ) → IsUser site asked.user user → (accounts : List (Base × List Entry)) → AreOpened site x.keeper.told accounts → j.damages ≡ x.keeper.damages
          → (desk : Accounts) → desk ≡ (accounts, 0) → (x' : KeptSetting) (done : KeptDone) → RunsLines site user desk (with_keeper x j) x' done → RunsKept asked o o' x x' done
      lines_run user is_user accounts opened undamaged desk is x' done run = inr (
        with_keeper x j,
        record {
          site = site;
          loaded = loaded;
          user = user;
          is_user = is_user;
          accounts = accounts;
          opened = opened;
          source = refl;
          sink = refl;
          clock = refl;
          told = load.told;
          keeper_later = load.faults;
          undamaged = undamaged;
        },
        subst (λ (d : Accounts). RunsLines site user d (with_keeper x j) x' done) is run,
      )

-- the desk has an account for each of the site's
pub all_on_desk : (site : Site) (told : Option Kept) (accounts : List (Base × List Entry)) (desk : Accounts) → AreOpened site told accounts → desk ≡ (accounts, 0) → length desk.0 ≡ length site.accounts
all_on_desk site told accounts desk opened is = ap (λ (d : Accounts). length d.0) is ∙ count_opened site told accounts opened
