-- What comes of the command `websocket` where nothing fails.
use Rattle.std.specs.Prelude.{◌≡◌, ◌⊎◌, ℕ, ℤ, Option, Some}
use Rattle.command_line.specs.WebsocketWords.{Websocket}
use Rattle.io_edge.specs.Outside.{OpenerShown, Rose}
use Rattle.jmapd_run.specs.Completes.{IsAccepted}
use Rattle.jmapd_run.specs.declared.status.Status.{Status}
use Rattle.jmapd_run.specs.declared.status.Status.TheVariants.{Done, NoMemory}
use Rattle.spec_site.specs.Configuration.{Site}
use Rattle.ws_edge.specs.Accepting.{AcceptShown}
use Rattle.ws_run.specs.Runs.{HasHosted, RunsSockets}
use Rattle.ws_serve.specs.declared.host.HostEnd.TheVariants.{All}

-- neither the opener failed nor what accepts sockets
pub record NeitherFailed (o o' : OpenerShown) (a a' : AcceptShown) : Type 0 where
  pub opened : Rose o.faults o'.faults → ⊥
  pub accepted : Rose a.faults a'.faults → ⊥

abbrev pub FaultlessRunsHost : Type 0
FaultlessRunsHost = (w : Websocket) (o o' : OpenerShown) (a a' : AcceptShown) (c c' : Option (ℕ → ℤ)) (status : Status) → RunsSockets w o o' a a' c c' status → NeitherFailed o o' a a'
    → (site : Site) → IsAccepted (Some w.config) o site → (status ≡ NoMemory) ⊎ ((status ≡ Done) × HasHosted a a' c c' site w All)
