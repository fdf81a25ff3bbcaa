-- What the calls of a socket come to in the histories of a desk's accounts, whatever others add to these.
use Rattle.std.specs.Prelude.{◌≡◌, ℕ, ◌+◌, ◌*◌, ◌≤◌, ◌++◌, map}
use Rattle.spec_batch.specs.Chain.{Summary, front_of}
use Rattle.spec_core.specs.declared.limits.TheConstants.{MAX_CALLS_IN_REQUEST}
use Rattle.spec_core.specs.declared.user.User.{User}
use Rattle.spec_sockets.specs.Serving.{ServesSocket, SocketSetting}
use Rattle.spec_sockets.specs.Turns.{made_for_texts, made_in_turns}
use Rattle.spec_sockets.specs.declared.served.TheConstants.{MAX_LOOK_CALLS}
use Rattle.spec_sockets.specs.declared.served.WsServed.{WsServed}

-- However the socket ended, the calls of its turns, for texts and for looks, stand in the histories in order, those for texts each with its front, and no other entry there is the desk's; and the
-- desk made no more calls than so many requests may have (RFC 8620 section 2), and the looks of a socket.
abbrev pub SocketsStandInHistories : Type 0
SocketsStandInHistories = (user : User) (most : ℕ) (x x' : SocketSetting) (served : WsServed) (s : ServesSocket user most x x' served)
    → Summary x.desk x'.desk (made_in_turns (s.turns ++ s.unfinished)) × (map front_of (made_for_texts (s.turns ++ s.unfinished)) ≡ served.fronts.items)
    × (x'.desk.turns ≤ x.desk.turns + (MAX_CALLS_IN_REQUEST * most + MAX_LOOK_CALLS))
