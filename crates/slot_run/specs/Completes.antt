-- How a look for a slot ends where nothing fails.
use Rattle.std.specs.Prelude.{◌≡◌, ◌⊎◌, ℕ, Some}
use Rattle.command_line.specs.KeptWords.{KeptCommand}
use Rattle.io_edge.specs.Outside.{OpenerShown}
use Rattle.jmapd_run.specs.Completes.{IsAccepted}
use Rattle.jmapd_run.specs.Starts.{IsUser}
use Rattle.jmapd_run.specs.declared.kept_status.KeptStatus.{KeptStatus}
use Rattle.jmapd_run.specs.declared.kept_status.KeptStatus.TheVariants.{Plain}
use Rattle.jmapd_run.specs.declared.status.Status.TheVariants.{Done, NoMemory, Refused}
use Rattle.kept_run.specs.Completes.{IsFaultFree, TellsGoodLists}
use Rattle.kept_run.specs.Runs.{KeptSetting}
use Rattle.slot_run.specs.Runs.{RunsSlot}
use Rattle.spec_site.specs.Configuration.{Site}

-- it is answered or refused, or memory is wanted
abbrev pub FaultlessLooksAnswer : Type 0
FaultlessLooksAnswer = (asked : KeptCommand) (o o' : OpenerShown) (x x' : KeptSetting) (status : KeptStatus) → RunsSlot asked o o' x x' status → IsFaultFree o o' x x'
    → (site : Site) (user : ℕ) → IsAccepted (Some asked.config) o site → IsUser site asked.user user → TellsGoodLists site x.keeper.told
    → (status ≡ Plain Done) ⊎ (status ≡ Plain Refused) ⊎ (status ≡ Plain NoMemory)
