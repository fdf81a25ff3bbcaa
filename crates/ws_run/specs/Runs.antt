-- What the command `websocket` does, whatever comes on its port.
use Rattle.std.specs.Prelude.{◌≡◌, ◌⊎◌, ◌≤◌, ℕ, ℤ, Option, Ok, Err}
use Rattle.account_desk.specs.FreshDesk.{fresh_desk}
use Rattle.command_line.specs.WebsocketWords.{Websocket}
use Rattle.io_edge.specs.Outside.{OpenerShown, Rose}
use Rattle.jmapd_run.specs.Starts.{IsLoaded, IsNotOpened}
use Rattle.jmapd_run.specs.declared.status.Status.{Status}
use Rattle.jmapd_run.specs.declared.status.Status.TheVariants.{Config, Done, NoMemory, OpenFault}
use Rattle.spec_batch.specs.Chain.{Shown}
use Rattle.spec_site.specs.Configuration.{Site}
use Rattle.ws_edge.specs.Accepting.{AcceptShown, Opens}
use Rattle.ws_serve.specs.Hosting.{HostsSockets}
use Rattle.ws_serve.specs.declared.host.HostEnd.{HostEnd}
use Rattle.ws_serve.specs.declared.host.HostEnd.TheVariants as end

-- what is shown of what accepts sockets and of the clock, before and after
module _ (a a' : AcceptShown) (c c' : Option (ℕ → ℤ)) where
  -- nothing was served
  abbrev pub NothingServed : Type 0
  NothingServed = (a'.sockets ≡ a.sockets) × (c' ≡ c)

  -- the port was opened, and no other, and the sockets of it were served on the fresh accounts of a site, until this end
  pub record HasHosted (site : Site) (w : Websocket) (e : HostEnd) : Type 0 where
    pub opened : AcceptShown
    pub opens : Opens a opened w.port
    pub same : opened.sockets ≡ a.sockets
    pub unasked : opened.asked ≡ a.asked
    pub later : a.faults ≤ opened.faults
    pub desk : Shown
    pub hosts : HostsSockets site w.connections opened a' (record { clock = c; desk = fresh_desk site }) (record { clock = c'; desk = desk }) e

  -- the port wasn't opened
  abbrev pub OpenedInVain : Websocket → Type 0
  OpenedInVain w = Opens a a' w.port × Rose a.faults a'.faults × NothingServed

  -- what comes of a site, by the status
  abbrev pub HostsSite : Site → Websocket → Status → Type 0
  HostsSite site w Done = HasHosted site w end.All
  HostsSite site w OpenFault = OpenedInVain w ⊎ HasHosted site w end.AcceptFault
  HostsSite site w NoMemory = NothingServed ⊎ HasHosted site w end.NoMemory
  HostsSite site w _ = ⊥

-- why nothing was begun
abbrev pub HostNotBegun : Websocket → OpenerShown → OpenerShown → Status → Type 0
HostNotBegun w o o' OpenFault = IsNotOpened o o' w.config
HostNotBegun w o o' (Config field index) = IsLoaded o o' w.config (Err (record { field = field; index = index }))
HostNotBegun w o o' e = e ≡ NoMemory

-- The configuration isn't loaded or is refused, or memory runs out before the port is opened; or it comes to a site whose users are served.
abbrev pub RunsSockets : Websocket → OpenerShown → OpenerShown → AcceptShown → AcceptShown → Option (ℕ → ℤ) → Option (ℕ → ℤ) → Status → Type 0
RunsSockets w o o' a a' c c' status =
    (HostNotBegun w o o' status × (a' ≡ a) × (c' ≡ c)) ⊎ ((site : Site) × IsLoaded o o' w.config (Ok site) × HostsSite a a' c c' site w status)
