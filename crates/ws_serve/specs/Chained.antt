-- What the calls of sockets that were served one after the other come to, whatever others do meanwhile.
use Rattle.std.specs.Prelude.{◌≡◌, ◌≢◌, ◌+◌, ◌*◌, ◌<◌, ◌≤◌, ℕ, List, [], ◌∷◌, flat_map, length, map, ⊤}
use Rattle.spec_history.specs.MostTurns.{most_turns}
use Rattle.spec_batch.specs.Chain.{Summary, front_of}
use Rattle.spec_core.specs.declared.limits.TheConstants.{MAX_CALLS_IN_REQUEST}
use Rattle.spec_site.specs.Configuration.{Site}
use Rattle.spec_sockets.specs.Turns.{Turn, made_for_texts, made_in_turns}
use Rattle.spec_sockets.specs.declared.served.TheConstants.{MAX_LOOK_CALLS, MAX_TEXTS}
use Rattle.spec_sockets.specs.declared.served.WsEnd.TheVariants as end
use Rattle.ws_edge.specs.Accepting.{AcceptShown}
use Rattle.ws_serve.specs.Hosting.{HostsSockets, SocketTools, SocketVisit}
use Rattle.ws_serve.specs.declared.host.HostEnd.{HostEnd}

-- the most turns of a desk that one socket takes
abbrev pub MAX_SOCKET_CALLS : ℕ
MAX_SOCKET_CALLS = MAX_CALLS_IN_REQUEST * MAX_TEXTS + MAX_LOOK_CALLS

-- However they ended, the calls of the sockets' turns stand in the histories of the desk's accounts, and no other entry there is the desk's.
-- The fronts of those for texts, joined in order, are those of the sockets, and the desk made no more calls than so many sockets may.
abbrev pub HostsStandInHistories : Type 0
HostsStandInHistories = (site : Site) (handshakes : ℕ) (a a' : AcceptShown) (t u : SocketTools) (e : HostEnd) (h : HostsSockets site handshakes a a' t u e)
    → (turns : List Turn) × Summary t.desk u.desk (made_in_turns turns) × (map front_of (made_for_texts turns) ≡ flat_map (λ v. v.back.served.fronts.items) h.visits) × (u.desk.turns ≤ t.desk.turns + MAX_SOCKET_CALLS * length h.visits)

-- the desk answered all that it was asked on these sockets, where memory sufficed
abbrev pub NoneIsSpent : List SocketVisit → Type 0
NoneIsSpent [] = ⊤
NoneIsSpent (v ∷ vs) = (v.back.served.end ≢ end.PassSpent) × NoneIsSpent vs

-- where a desk has more calls left than so many sockets may ask for
abbrev pub SocketsAreNeverSpent : Type 0
SocketsAreNeverSpent = (site : Site) (handshakes : ℕ) (a a' : AcceptShown) (t u : SocketTools) (e : HostEnd) (h : HostsSockets site handshakes a a' t u e)
    → t.desk.turns + MAX_SOCKET_CALLS * handshakes < most_turns → NoneIsSpent h.visits
