-- The line on standard error that tells of a status.
use Rattle.std.specs.Prelude.{ℕ, List, ◌++◌, Option, Some, None, codes}
use Rattle.std.specs.Fmt.{decimal}
use Rattle.jmapd_run.specs.declared.status.Status.{Status}
use Rattle.jmapd_run.specs.declared.status.Status.TheVariants.{Config, Cut, Done, NoMemory, OpenFault, ReadFault, Refused, Usage, WriteFault}
use Rattle.jmapd_run.specs.declared.kept_status.KeptStatus.{KeptStatus}
use Rattle.jmapd_run.specs.declared.kept_status.KeptStatus.TheVariants.{Plain, KeepFault, Damaged, ForeignJournal, BadJournal}
use Rattle.spec_history.specs.ObjectId.{id_text}
use Rattle.spec_site.specs.Configuration.{field_name}
use Rattle.sql_keeper.specs.declared.open.OpenError.{OpenError}
use Rattle.sql_keeper.specs.declared.open.OpenError.TheVariants.{CannotOpen, Failed, InUse, NoMemory as NoMemoryToOpen, OtherAccount, OtherProgram, OtherVersion}

-- there is one of every status but `Done`; of a configuration it names the first bad field and the place of its first bad item
abbrev pub error_line : Status → Option (List ℕ)
error_line Done = None
error_line Refused = Some (codes "jmapd: request refused")
error_line Usage = Some (codes "usage: jmapd batch|stdio|listen|workload [options]")
error_line (Config field index) = Some (codes "jmapd: configuration: " ++ field_name field ++ codes " " ++ decimal index)
error_line ReadFault = Some (codes "jmapd: read fault")
error_line WriteFault = Some (codes "jmapd: write fault")
error_line OpenFault = Some (codes "jmapd: open fault")
error_line NoMemory = Some (codes "jmapd: out of memory")
error_line Cut = Some (codes "jmapd: connection cut")

-- what is told of a place in the journal of an account
abbrev pub place_line : List ℕ → List ℕ → ℕ → List ℕ
place_line front account place = front ++ account ++ codes " " ++ decimal place

-- what is told of an object for which an account doesn't go on
abbrev pub object_line : List ℕ → List ℕ → List ℕ
object_line account id = codes "jmapd: bad journal: " ++ account ++ codes " object " ++ id

-- of a kept run: it never tells of an object what it holds
abbrev pub kept_error_line : KeptStatus → Option (List ℕ)
kept_error_line (Plain status) = error_line status
kept_error_line KeepFault = Some (codes "jmapd: keep fault")
kept_error_line (Damaged account place text) = Some (place_line (codes "jmapd: damaged entry: ") account place)
kept_error_line (ForeignJournal account place) = Some (place_line (codes "jmapd: bad journal: ") account place)
kept_error_line (BadJournal account kind n) = Some (object_line account (id_text kind n))

-- why a journal isn't opened; of want of memory the status tells
abbrev pub unopened_words : OpenError → Option (List ℕ)
unopened_words InUse = Some (codes "journal in use")
unopened_words CannotOpen = Some (codes "journal can't be opened")
unopened_words OtherProgram = Some (codes "no journal")
unopened_words OtherAccount = Some (codes "journal of another account")
unopened_words (OtherVersion version) = Some (codes "journal of a later version: open it with the program that made it, or a later one")
unopened_words (Failed error) = Some (codes "journal failed")
unopened_words NoMemoryToOpen = None

abbrev pub journal_line : List ℕ → List ℕ → List ℕ
journal_line words name = codes "jmapd: " ++ words ++ codes ": " ++ name
