-- From the words on.
use Rattle.std.proofs.Common.{◌≡◌, ◌<◌, ℕ, List, Some, None, Ok, Err, All, inl, inr, length, refl, sym, subst}
use Rattle.command_line.specs.KeptWords.{KeptCommand}
use Rattle.io_edge.specs.Outside.{OpenerShown, SinkShown, SourceShown}
use Rattle.jmapd_run.specs.Shown.{LoadHow}
use Rattle.jmapd_run.specs.Starts.{IsLoaded, IsUser}
use Rattle.jmapd_run.specs.declared.kept_status.KeptStatus.{KeptStatus}
use Rattle.jmapd_run.specs.declared.kept_status.KeptStatus.TheVariants.{Plain}
use Rattle.jmapd_run.specs.declared.status.Status.{Status}
use Rattle.jmapd_run.specs.declared.status.Status.TheVariants.{Usage}
use Rattle.journal_keeper.specs.Journals.{KeeperShown}
use Rattle.kept_run.proofs.RunLemmas.{with_keeper, without_accounts, without_site}
use Rattle.kept_run.proofs.StartLemmas.{loads_none}
use Rattle.kept_run.specs.Opened.{AreOpened}
use Rattle.kept_run.specs.Runs.{KeptSetting, NotBegun}
use Rattle.kept_run.specs.Steps.{IsLoad, NotOpened}
use Rattle.slot_run.specs.Runs.{AnswersSlot, RunsSlot}
use Rattle.spec_core.specs.declared.user.Grant.{Grant}
use Rattle.spec_history.specs.Base.{Base}
use Rattle.spec_history.specs.declared.entry.Entry.{Entry}
use Rattle.spec_site.specs.Configuration.{Site, user_at, user_named}

-- the setting when what is asked for was answered
abbrev pub with_streams : KeptSetting → SourceShown → SinkShown → KeeperShown → KeptSetting
with_streams x s k j = record { source = s; sink = k; clock = x.clock; keeper = j }

module _ (asked : KeptCommand) (o o' : OpenerShown) (x : KeptSetting) where
  not_answered : (j : KeeperShown) (status : KeptStatus) → IsLoad x.keeper j → NotBegun asked o o' x (with_keeper x j) status → RunsSlot asked o o' x (with_keeper x j) status
  not_answered j status load how = inl (
    record {
      source = refl;
      sink = refl;
      told = load.told;
      keeper_later = load.faults;
      damages_later = load.damages;
    },
    how,
  )

  -- the configuration isn't loaded, or refused
  pub no_site : (e : Status) → LoadHow o o' asked.config (Err e) → RunsSlot asked o o' x x (Plain e)
  no_site e how = not_answered x.keeper (Plain e) (loads_none x.keeper) (without_site asked o o' x e how)

  module _ (site : Site) (loaded : IsLoaded o o' asked.config (Ok site)) where
    -- there is no user of the name
    pub no_user : (name : List ℕ) × (asked.user ≡ Some name) × (user_named site name ≡ None) → RunsSlot asked o o' x x (Plain Usage)
    no_user none = not_answered x.keeper (Plain Usage) (loads_none x.keeper) (none.0, site, none.1, loaded, none.2)

    module _ (j : KeeperShown) (load : IsLoad x.keeper j) where
      -- an account doesn't open
      pub no_accounts : (e : KeptStatus) → NotOpened site x.keeper j e → RunsSlot asked o o' x (with_keeper x j) e
      no_accounts e how = not_answered j e load (without_accounts asked o o' x site loaded j load e how)

      -- what is asked for was answered
      pub looked : (user : ℕ) → IsUser site asked.user user → (accounts : List (Base × List Entry)) → AreOpened site x.keeper.told accounts → j.damages ≡ x.keeper.damages
          → (s' : SourceShown) (k' : SinkShown) (plain : Status) → AnswersSlot (user_at site user).grants accounts x.source s' x.sink k' plain → RunsSlot asked o o' x (with_streams x s' k' j) (Plain plain)
      looked user is_user accounts opened undamaged s' k' plain answers = inr (record {
        setting = with_keeper x j;
        start = record {
          site = site;
          loaded = loaded;
          user = user;
          is_user = is_user;
          accounts = accounts;
          opened = opened;
          source = refl;
          sink = refl;
          clock = refl;
          told = load.told;
          keeper_later = load.faults;
          undamaged = undamaged;
        };
        keeper = refl;
        plain = plain;
        is = refl;
        answers = answers;
      })

-- each account that a user is granted is open
pub all_open : (accounts : List (Base × List Entry)) (n : ℕ) (grants : List Grant) → length accounts ≡ n → All (λ (g : Grant). g.account < n) grants → All (λ (g : Grant). g.account < length accounts) grants
all_open accounts n grants count granted = subst (λ (m : ℕ). All (λ (g : Grant). g.account < m) grants) (sym count) granted
