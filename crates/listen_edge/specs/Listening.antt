-- What contracts see of where connections come from.
use Rattle.std.specs.Prelude.{◌≡◌, ℕ, ◌<◌, ◌≤◌, List, [], ◌∷◌, ◌++◌, Option, IfSome, length, option_map}
use Rattle.io_edge.specs.Outside.{SinkShown, SourceShown}
use Rattle.spec_connection.specs.declared.served.Served.{Served}

-- a connection as it was when it was handed out
pub record Connection : Type 0 where
  pub input : SourceShown
  pub output : SinkShown

-- a connection as it came back, and how it was served
pub record Returned : Type 0 where
  pub input : SourceShown
  pub output : SinkShown
  pub served : Served

-- the connections that were handed out, and those that came back, each in order
pub record Connections : Type 0 where
  pub handed : List Connection
  pub back : List Returned

-- of a listener: its connections, where it tells them, and how often it has failed. The count stands at the last value of a u64.
pub record ListenerShown : Type 0 where
  pub connections : Option Connections
  pub faults : ℕ

abbrev pub handing_out : SourceShown → SinkShown → Connections → Connections
handing_out input output c = record c { handed = c.handed ++ (record { input = input; output = output }) ∷ [] }

abbrev pub taking_back : SourceShown → SinkShown → Served → Connections → Connections
taking_back input output served c = record c { back = c.back ++ (record { input = input; output = output; served = served }) ∷ [] }

abbrev pub IsBalanced : ListenerShown → Type 0
IsBalanced l = IfSome l.connections (λ c. length c.back ≤ length c.handed)

-- a connection was handed out that didn't come back
abbrev pub HasOneOut : ListenerShown → Type 0
HasOneOut l = IfSome l.connections (λ c. length c.back < length c.handed)

-- of a host: the pairs of a port and a worker that it was asked for a listener for, in order, where it tells them, and how often it has failed
pub record HostShown : Type 0 where
  pub asked : Option (List (ℕ × ℕ))
  pub faults : ℕ

-- it was asked for a listener for this port and this worker, and for nothing else
abbrev pub Asks : HostShown → HostShown → ℕ → ℕ → Type 0
Asks h h' port worker = h'.asked ≡ option_map (λ pairs. pairs ++ (port, worker) ∷ []) h.asked
