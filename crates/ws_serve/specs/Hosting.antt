-- What serving sockets one after the other does, whatever comes on them and whatever others do meanwhile.
use Rattle.std.specs.Prelude.{◌≡◌, ℕ, ℤ, ◌+◌, ◌-◌, ◌^◌, ◌<◌, ◌≤◌, min, List, [], ◌∷◌, ◌++◌, Option, length, map, option_map, ⊤}
use Rattle.io_edge.specs.Outside.{Rose}
use Rattle.spec_batch.specs.Chain.{Shown}
use Rattle.spec_site.specs.Configuration.{Site, user_at}
use Rattle.spec_sockets.specs.Links.{LinkShown}
use Rattle.spec_sockets.specs.Serving.{ServesSocket, SocketSetting}
use Rattle.spec_sockets.specs.declared.served.TheConstants.{MAX_TEXTS}
use Rattle.ws_edge.specs.Accepting.{AcceptShown, SocketHanded, SocketBack, Sockets}
use Rattle.ws_serve.specs.declared.host.HostEnd.{HostEnd}
use Rattle.ws_serve.specs.declared.host.HostEnd.TheVariants.{AcceptFault, All, NoMemory}

-- what is shown of what all sockets use
pub record SocketTools : Type 0 where
  pub clock : Option (ℕ → ℤ)
  pub desk : Shown

-- a socket as it was handed out and as it came back
pub record SocketVisit : Type 0 where
  pub handed : SocketHanded
  pub back : SocketBack

abbrev pub socket_setting : SocketTools → LinkShown → SocketSetting
socket_setting t link = record { link = link; clock = t.clock; desk = t.desk }

-- each socket was served for its user, one after the other, and clock and desk went with them from the one state to the other
abbrev pub ServesEachSocket : Site → SocketTools → SocketTools → List SocketVisit → Type 0
ServesEachSocket site t u [] = u ≡ t
ServesEachSocket site t u (v ∷ vs) =
    (s : SocketTools) × (v.handed.user < length site.users) × ServesSocket (user_at site v.handed.user) MAX_TEXTS (socket_setting t v.handed.link) (socket_setting s v.back.link) v.back.served × ServesEachSocket site s u vs

-- these were handed out and came back
abbrev pub with_sockets : List SocketVisit → Sockets → Sockets
with_sockets vs s = record { handed = s.handed ++ map (λ v. v.handed) vs; back = s.back ++ map (λ v. v.back) vs }

-- a count rose by so many, or to its last value
abbrev pub RoseBy : ℕ → ℕ → ℕ → Type 0
RoseBy n before now = min now (2 ^ 64 - 1) ≡ min (before + n) (2 ^ 64 - 1)

-- when each end comes, where so many handshakes were to be looked at
abbrev pub HostHow : ℕ → AcceptShown → AcceptShown → HostEnd → Type 0
HostHow handshakes a a' All = RoseBy handshakes a.asked a'.asked
HostHow handshakes a a' AcceptFault = Rose a.faults a'.faults
HostHow handshakes a a' NoMemory = ⊤

-- Of so many handshakes these sockets came, in order, and each was handed back before the next came, served as its own texts ask for. All that was handed out came back.
pub record HostsSockets (site : Site) (handshakes : ℕ) (a a' : AcceptShown) (t u : SocketTools) (end : HostEnd) : Type 0 where
  pub visits : List SocketVisit
  pub few : length visits ≤ handshakes
  pub told : a'.sockets ≡ option_map (with_sockets visits) a.sockets
  pub ports : a'.ports ≡ a.ports
  pub serves : ServesEachSocket site t u visits
  pub later : a.faults ≤ a'.faults
  pub how : HostHow handshakes a a' end
