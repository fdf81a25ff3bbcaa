-- What contracts see of a start, and of what a load came to.
use Rattle.std.specs.Prelude.{◌≡◌, ℕ, ◌<◌, List, Option, Some, None, Result, Ok, Err, length, ⊤}
use Rattle.command_line.specs.Commands.{Command}
use Rattle.io_edge.specs.Outside.{OpenerShown}
use Rattle.spec_site.specs.Configuration.{Fault, Site, user_named}
use Rattle.jmapd_run.specs.declared.status.Status.{Status}
use Rattle.jmapd_run.specs.declared.status.Status.TheVariants.{Config, NoMemory, OpenFault, Usage}
use Rattle.jmapd_run.specs.Starts as starts
use Rattle.jmapd_run.specs.Starts.{IsLoaded, IsNotOpened, IsSite, IsStart, IsUser}
use Rattle.jmapd_run.specs.declared.start.Start.{Start}
use Rattle.jmapd_run.specs.declared.start.Start.TheVariants.{Batch, Stdio, Workload}

abbrev pub start_shown : Start → starts.Start
start_shown (Batch site user) = starts.batch_for site user
start_shown (Stdio site) = starts.stdio_of site
start_shown (Workload work) = starts.workload_by work.number work.size

-- its user, where it has one, is one of its site
abbrev pub HasItsUser : Start → Type 0
HasItsUser (Batch site user) = user < length site.users
HasItsUser (Stdio site) = ⊤
HasItsUser (Workload work) = ⊤

-- what bytes come to as a configuration
abbrev pub ReadHow : Result Site Fault → Result Site Status → Type 0
ReadHow what (Ok site) = what ≡ Ok site
ReadHow what (Err (Config field index)) = what ≡ Err (record { field = field; index = index })
ReadHow what (Err e) = e ≡ NoMemory

-- the user of a name is looked for
abbrev pub NamedHow : Site → List ℕ → Result Start Status → Type 0
NamedHow site name (Ok start) = (user : ℕ) × (start_shown start ≡ starts.batch_for site user) × (user_named site name ≡ Some user)
NamedHow site name (Err e) = (e ≡ Usage) × (user_named site name ≡ None)

module _ (o o' : OpenerShown) where
  -- the configuration of a name
  abbrev pub LoadHow : List ℕ → Result Site Status → Type 0
  LoadHow name (Ok site) = IsLoaded o o' name (Ok site)
  LoadHow name (Err OpenFault) = IsNotOpened o o' name
  LoadHow name (Err (Config field index)) = IsLoaded o o' name (Err (record { field = field; index = index }))
  LoadHow name (Err e) = e ≡ NoMemory

  abbrev pub SiteHow : Option (List ℕ) → Result Site Status → Type 0
  SiteHow None (Ok site) = IsSite o o' None site
  SiteHow None (Err e) = e ≡ NoMemory
  SiteHow (Some name) r = LoadHow name r

  abbrev pub BatchHow : Option (List ℕ) → Option (List ℕ) → Result Start Status → Type 0
  BatchHow config who (Ok start) = (site : Site) × (user : ℕ) × (start_shown start ≡ starts.batch_for site user) × IsSite o o' config site × IsUser site who user
  BatchHow config who (Err Usage) = (name : List ℕ) × (site : Site) × (who ≡ Some name) × IsSite o o' config site × (user_named site name ≡ None)
  BatchHow config who (Err e) = SiteHow config (Err e)

  abbrev pub StartHow : Option Command → Result Start Status → Type 0
  StartHow asked (Ok start) = IsStart o o' asked (start_shown start)
  StartHow asked (Err Usage) = IsStart o o' asked starts.usage
  StartHow asked (Err OpenFault) = IsStart o o' asked starts.not_opened
  StartHow asked (Err (Config field index)) = IsStart o o' asked (starts.misconfigured field index)
  StartHow asked (Err e) = e ≡ NoMemory
