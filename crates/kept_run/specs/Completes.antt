-- How a kept run ends where nothing fails, and what it finds when it is begun again.
use Rattle.std.specs.Prelude.{◌≡◌, ◌⊎◌, ◌<◌, ◌++◌, ◌&&◌, ℕ, List, Bool, IfSome, Option, Some, None, Ok, length, nat_le, slice_index_or, if◌then◌else◌}
use Rattle.std.specs.List.{list_all}
use Rattle.command_line.specs.KeptWords.{KeptCommand}
use Rattle.io_edge.specs.Outside.{OpenerShown, Rose}
use Rattle.jmapd_run.specs.Completes.{IsAccepted}
use Rattle.jmapd_run.specs.Starts.{IsLoaded, IsUser}
use Rattle.jmapd_run.specs.declared.status.Status.{Status}
use Rattle.jmapd_run.specs.declared.status.Status.TheVariants.{Cut, Done, NoMemory}
use Rattle.journal_keeper.specs.Journals.{AreEntriesOf, Kept, texts_of}
use Rattle.kept_run.specs.Lines.{left_by}
use Rattle.kept_run.specs.Opened.{AreOpened, RunGoesOn}
use Rattle.kept_run.specs.Runs.{KeptSetting, RunsKept, RunsLines}
use Rattle.kept_run.specs.declared.lines.TheConstants.{MAX_LINES}
use Rattle.kept_run.specs.declared.status.KeptDone.{KeptDone}
use Rattle.jmapd_run.specs.declared.kept_status.KeptStatus.{KeptStatus}
use Rattle.jmapd_run.specs.declared.kept_status.KeptStatus.TheVariants.{Plain}
use Rattle.line_edge.specs.Lines.{lines_of}
use Rattle.spec_core.specs.declared.limits.TheConstants.{MAX_SIZE_REQUEST}
use Rattle.spec_history.specs.Base.{Base}
use Rattle.spec_history.specs.declared.entry.Entry.{Entry}
use Rattle.spec_site.specs.Configuration.{Site, SiteAccount}

-- ---- where nothing fails

-- there are no more lines than may be answered, and none is too long
abbrev pub may_all_be_answered : List (List ℕ) → Bool
may_all_be_answered ls = nat_le (length ls) MAX_LINES && list_all (λ l. nat_le (length l) MAX_SIZE_REQUEST) ls

abbrev pub lines_status : List (List ℕ) → Status
lines_status ls = if may_all_be_answered ls then Done else Cut

-- The status is the one that the lines of the input give. Where the input doesn't tell its bytes, there are some that give it.
abbrev pub GivesLinesStatus : Option (List ℕ) → KeptStatus → Type 0
GivesLinesStatus input status = (bytes : List ℕ) × IfSome input (λ told. bytes ≡ told) × (status ≡ Plain (lines_status (lines_of bytes)))

-- the keeper tells a list of each account of a site, and the account goes on from it
abbrev pub TellsGoodLists : Site → Option Kept → Type 0
TellsGoodLists site None = ⊥
TellsGoodLists site (Some k) = (n : ℕ) → n < length site.accounts → (d : SiteAccount) → (list : List Entry) × AreEntriesOf list (texts_of (slice_index_or site.accounts n d).id k.texts) × RunGoesOn site.zones list

-- opener, input, output and keeper didn't fail
pub record IsFaultFree (o o' : OpenerShown) (x x' : KeptSetting) : Type 0 where
  pub opened : Rose o.faults o'.faults → ⊥
  pub read : Rose x.source.faults x'.source.faults → ⊥
  pub wrote : Rose x.sink.faults x'.sink.faults → ⊥
  pub kept : Rose x.keeper.faults x'.keeper.faults → ⊥

abbrev pub FaultlessKeptRunsWork : Type 0
FaultlessKeptRunsWork = (asked : KeptCommand) (o o' : OpenerShown) (x x' : KeptSetting) (done : KeptDone) → RunsKept asked o o' x x' done → IsFaultFree o o' x x'
    → (site : Site) (user : ℕ) → IsAccepted (Some asked.config) o site → IsUser site asked.user user → TellsGoodLists site x.keeper.told
    → (done.status ≡ Plain NoMemory) ⊎ GivesLinesStatus x.source.left done.status

-- a keeper that tells good lists and doesn't fail is never why a run ends
abbrev pub GoodListsAreTaken : Type 0
GoodListsAreTaken = (asked : KeptCommand) (o o' : OpenerShown) (x x' : KeptSetting) (done : KeptDone) → RunsKept asked o o' x x' done → (Rose x.keeper.faults x'.keeper.faults → ⊥)
    → ((site : Site) → IsLoaded o o' asked.config (Ok site) → TellsGoodLists site x.keeper.told) → (status : Status) × (done.status ≡ Plain status)

-- ---- begun again

-- A run, however it ends, leaves the accounts as the lines that were kept left them to the run that is begun next: the keeper has just their entries, and the accounts go on from these.
abbrev pub RunsGoOn : Type 0
RunsGoOn = (name : List ℕ) (o o' : OpenerShown) (site : Site) → IsLoaded o o' name (Ok site) → (user : ℕ) (accounts : List (Base × List Entry)) (x x' : KeptSetting) (done : KeptDone)
    → AreOpened site x.keeper.told accounts → (r : RunsLines site user (accounts, 0) x x' done) → AreOpened site x'.keeper.told (left_by (accounts, 0) (r.written ++ r.unwritten)).0
