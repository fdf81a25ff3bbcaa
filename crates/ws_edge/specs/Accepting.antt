-- What contracts see of what hands links out.
use Rattle.std.specs.Prelude.{◌≡◌, ℕ, ◌<◌, ◌≤◌, List, [], ◌∷◌, ◌++◌, Option, IfSome, length, option_map}
use Rattle.spec_sockets.specs.Links.{LinkShown}
use Rattle.spec_sockets.specs.declared.served.WsServed.{WsServed}

-- a socket as it was when it was handed out: the number of its user, and its link
pub record SocketHanded : Type 0 where
  pub user : ℕ
  pub link : LinkShown

-- a socket as it came back, and how it was served
pub record SocketBack : Type 0 where
  pub link : LinkShown
  pub served : WsServed

-- the sockets that were handed out, and those that came back, each in order
pub record Sockets : Type 0 where
  pub handed : List SocketHanded
  pub back : List SocketBack

-- Of what hands links out: the ports that it was asked to open and its sockets, where it tells them, at how many handshakes it looked, and how often it has failed.
-- The counts stand at the last value of a u64.
pub record AcceptShown : Type 0 where
  pub ports : Option (List ℕ)
  pub sockets : Option Sockets
  pub asked : ℕ
  pub faults : ℕ

abbrev pub handing_socket_out : ℕ → LinkShown → Sockets → Sockets
handing_socket_out user link s = record s { handed = s.handed ++ (record { user = user; link = link }) ∷ [] }

abbrev pub taking_socket_back : LinkShown → WsServed → Sockets → Sockets
taking_socket_back link served s = record s { back = s.back ++ (record { link = link; served = served }) ∷ [] }

-- it was asked to open this port, and nothing else
abbrev pub Opens : AcceptShown → AcceptShown → ℕ → Type 0
Opens a a' port = a'.ports ≡ option_map (λ ports. ports ++ port ∷ []) a.ports

-- no more sockets came back than were handed out
abbrev pub HasNoMoreBack : AcceptShown → Type 0
HasNoMoreBack a = IfSome a.sockets (λ s. length s.back ≤ length s.handed)

-- a socket was handed out that didn't come back
abbrev pub HasSocketOut : AcceptShown → Type 0
HasSocketOut a = IfSome a.sockets (λ s. length s.back < length s.handed)
