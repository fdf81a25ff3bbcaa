-- Links of two kinds, and what asks for them.
use Rattle.std.specs.Prelude.{ℕ, ◌<◌, ⊤}
use Rattle.ws_edge.specs.declared.request_head.HeadAsks.{HeadAsks}
use Rattle.ws_edge.specs.declared.request_head.HeadAsks.TheVariants as asks
use Rattle.ws_edge.specs.declared.tcp_link.TcpLink.{TcpLink}
use Rattle.ws_edge.specs.declared.tcp_link.TcpLink.TheVariants as link

-- how often a link has failed
abbrev pub tcp_faults : {S R : Type 0} → TcpLink S R → ℕ
tcp_faults (link.Socket l) = l.faults
tcp_faults (link.Events l) = l.faults

-- a stream of events is asked for by one of so many users
abbrev pub AsksForUserOf : ℕ → HeadAsks → Type 0
AsksForUserOf users asks.Socket = ⊤
AsksForUserOf users (asks.Events e) = e.user < users
AsksForUserOf users (asks.Refused bytes) = ⊤
