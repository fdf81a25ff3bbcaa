-- What hosts are asked for where workers serve connections, and others sockets.
use Rattle.std.specs.Prelude.{◌≡◌, ◌⊎◌, ◌+◌, ◌<◌, ◌≤◌, ◌++◌, ℕ, List, Bool, true, false, Result, Ok, Err, replicate}
use Rattle.command_line.specs.Commands.{Listen, socket_port, socket_workers}
use Rattle.io_edge.specs.Outside.{Rose}
use Rattle.listen_edge.specs.Listening.{HostShown}
use Rattle.listen_edge.specs.declared.host.HostError.{HostError}
use Rattle.listen_edge.specs.declared.host.HostError.TheVariants.{Failed, NoMemory}
use Rattle.listen_workers.specs.Listeners.{AskedFor}

-- what is shown of the host of connections, and of that of sockets
pub record HostsShown : Type 0 where
  pub connections : HostShown
  pub sockets : HostShown

-- which workers serve sockets: those behind the workers of connections
abbrev pub serving_sockets : Listen → List Bool
serving_sockets l = replicate l.workers false ++ replicate (socket_workers l.sockets) true

module _ (l : Listen) (h h' : HostsShown) where
  -- each worker has its post
  abbrev pub AskedForAll : Type 0
  AskedForAll = AskedFor h.connections h'.connections l.port l.workers × AskedFor h.sockets h'.sockets (socket_port l.sockets) (socket_workers l.sockets)

  -- a host made no post for a worker and wasn't asked for another: nothing was asked of the host of sockets, or all was made of the host of connections
  abbrev pub AskedInVain : Type 0
  AskedInVain =
      (((n : ℕ) × (n < l.workers) × AskedFor h.connections h'.connections l.port (n + 1)) × Rose h.connections.faults h'.connections.faults × (h'.sockets ≡ h.sockets))
      ⊎ (AskedFor h.connections h'.connections l.port l.workers
      × ((n : ℕ) × (n < socket_workers l.sockets) × AskedFor h.sockets h'.sockets (socket_port l.sockets) (n + 1)) × Rose h.sockets.faults h'.sockets.faults)

  -- memory ran out before each worker had its post, or behind that
  abbrev pub AskedForSome : Type 0
  AskedForSome =
      (((n : ℕ) × (n ≤ l.workers) × AskedFor h.connections h'.connections l.port n) × (h'.sockets ≡ h.sockets))
      ⊎ (AskedFor h.connections h'.connections l.port l.workers × ((n : ℕ) × (n ≤ socket_workers l.sockets) × AskedFor h.sockets h'.sockets (socket_port l.sockets) n))

  abbrev pub OpensPosts : {P : Type 0} → Result P HostError → Type 0
  OpensPosts (Ok posts) = AskedForAll
  OpensPosts (Err Failed) = AskedInVain
  OpensPosts (Err NoMemory) = AskedForSome
