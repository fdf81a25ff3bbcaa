-- Which statuses a run has in which nothing fails.
use Rattle.std.specs.Prelude.{◌≡◌, ◌⊎◌, ◌+◌, ℕ, List, [], ◌∷◌, Option, Some, None, IfSome, Ok, take, if◌then◌else◌, ⊤}
use Rattle.conn_serve.specs.Complete.{Holds}
use Rattle.io_edge.specs.Outside.{OpenerShown, Rose}
use Rattle.spec_batch.specs.Asked.{is_refused}
use Rattle.spec_batch.specs.Reply.{asked_in}
use Rattle.spec_connection.specs.declared.served.TheConstants.{MAX_MESSAGES}
use Rattle.spec_core.specs.declared.limits.TheConstants.{MAX_SIZE_REQUEST}
use Rattle.spec_http.specs.Messages.{Message}
use Rattle.spec_http.specs.Pipeline.{Ending, undecided, bad_head, close_asked, quota_spent}
use Rattle.spec_site.specs.Configuration.{Site, built_in, configured}
use Rattle.jmapd_run.specs.declared.status.Status.{Status}
use Rattle.jmapd_run.specs.declared.status.Status.TheVariants.{Cut, Done, NoMemory, Refused}
use Rattle.command_line.specs.Commands.{Command, batch, listen, stdio, workload}
use Rattle.jmapd_run.specs.Headline.{Surroundings}
use Rattle.jmapd_run.specs.Runs.{Runs}
use Rattle.jmapd_run.specs.Starts.{HasConfiguration, IsUser, configuration_of}

-- ---- the status that the bytes of the input give

-- of a request
abbrev pub request_status : List ℕ → Status
request_status bytes = if is_refused (asked_in bytes) then Refused else Done

-- of a connection whose bytes end so, with this left
abbrev pub connection_status : Ending → List ℕ → Status
connection_status undecided [] = Done
connection_status undecided (b ∷ left) = Cut
connection_status (bad_head status) left = Cut
connection_status close_asked left = Done
connection_status quota_spent left = Cut

-- The bytes are those of the input, or its first ones where a request has no more, if the input tells them; and this is the status that they give. A workload and workers have no part in them.
abbrev pub GivesStatus : Command → Option (List ℕ) → Status → Type 0
GivesStatus (batch config who) input status = (bytes : List ℕ) × IfSome input (λ told. bytes ≡ take (MAX_SIZE_REQUEST + 1) told) × (status ≡ request_status bytes)
GivesStatus (stdio config) input status =
    (bytes : List ℕ) × IfSome input (λ told. bytes ≡ told) × (ms : List Message) × (left : List ℕ) × (ending : Ending) × Holds MAX_MESSAGES bytes ms left ending × (status ≡ connection_status ending left)
GivesStatus (workload number size) input status = status ≡ Done
GivesStatus (listen l) input status = status ≡ Done

-- ---- runs

-- the configuration that is named is among the files, and it is accepted; or none is named
abbrev pub IsAccepted : Option (List ℕ) → OpenerShown → Site → Type 0
IsAccepted None o site = site ≡ built_in
IsAccepted (Some name) o site = (bytes : List ℕ) × HasConfiguration (Some name) o (Some bytes) × (configured bytes ≡ Ok site)

-- the user that is named is one of the site
abbrev pub HasUser : Site → Command → Type 0
HasUser site (batch config who) = (user : ℕ) × IsUser site who user
HasUser site (stdio config) = ⊤
HasUser site (workload number size) = ⊤
HasUser site (listen l) = ⊤

-- neither opener nor input nor output failed
pub record NothingFailed (x x' : Surroundings) (o o' : OpenerShown) : Type 0 where
  pub opened : Rose o.faults o'.faults → ⊥
  pub read : Rose x.input.faults x'.input.faults → ⊥
  pub wrote : Rose x.output.faults x'.output.faults → ⊥

abbrev pub FaultlessRunsWork : Type 0
FaultlessRunsWork = (x x' : Surroundings) (o o' : OpenerShown) (asked : Option Command) (status : Status) → Runs x x' o o' asked status → NothingFailed x x' o o'
    → (command : Command) (site : Site) → asked ≡ Some command → IsAccepted (configuration_of command) o site → HasUser site command
    → (status ≡ NoMemory) ⊎ GivesStatus command x.input.left status
