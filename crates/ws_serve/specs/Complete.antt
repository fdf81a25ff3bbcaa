-- What a socket comes to where its link doesn't fail and its desk may make more calls.
use Rattle.std.specs.Prelude.{◌≡◌, ℕ, ◌<◌, List, [], ◌∷◌, ◌++◌, length, ⊤}
use Rattle.io_edge.specs.Outside.{Rose}
use Rattle.spec_history.specs.MostTurns.{most_turns}
use Rattle.spec_core.specs.declared.user.User.{User}
use Rattle.spec_sockets.specs.Serving.{IsSpent, ServesSocket, SocketSetting}
use Rattle.spec_sockets.specs.Turns.{AllTurnsFit, Turn, TurnsTold, replies_in, sent_in, taken_in}
use Rattle.spec_sockets.specs.declared.served.WsEnd.{WsEnd}
use Rattle.spec_sockets.specs.declared.served.WsEnd.TheVariants as end
use Rattle.spec_sockets.specs.declared.served.WsServed.{WsServed}
use Rattle.spec_sockets.specs.Links.{SendsTexts, TakesMessages, HasNoMoreMessages}
use Rattle.spec_sockets.specs.declared.message.WsMessage.{WsMessage}
use Rattle.spec_sockets.specs.declared.message.WsMessage.TheVariants.{Binary}

pub record IsSocketUnharmed (x x' : SocketSetting) : Type 0 where
  pub worked : Rose x.link.faults x'.link.faults → ⊥
  pub may_call : x'.desk.turns < most_turns

module _ (user : User) (most : ℕ) (x x' : SocketSetting) (served : WsServed) where
  -- all turns were had whole, this was taken behind them, and nothing else was sent
  pub record AllTurnsHad (behind : List WsMessage) : Type 0 where
    pub turns : List Turn
    pub count : length (replies_in turns) ≡ served.replies
    pub took : TakesMessages x.link.left x'.link.left (taken_in turns ++ behind)
    pub fit : AllTurnsFit user [] turns
    pub told : TurnsTold x.clock x'.clock [] served.fronts.items x.desk x'.desk turns
    pub sent : SendsTexts x.link.sent x'.link.sent (sent_in turns)

  abbrev pub EndsWithTexts : WsEnd → Type 0
  EndsWithTexts end.Closed = AllTurnsHad [] × HasNoMoreMessages x'.link.left
  EndsWithTexts end.Binary = AllTurnsHad (Binary ∷ [])
  EndsWithTexts end.Quota = (h : AllTurnsHad []) × IsSpent user most h.turns
  EndsWithTexts end.LinkFault = ⊥
  EndsWithTexts end.PassSpent = ⊥
  EndsWithTexts end.NoMemory = ⊤

-- where the link didn't fail and the desk may make more calls, the socket ended as its texts do, or memory was wanted
abbrev pub FaultlessSocketsAreAnswered : Type 0
FaultlessSocketsAreAnswered = (user : User) (most : ℕ) (x x' : SocketSetting) (served : WsServed) → ServesSocket user most x x' served → IsSocketUnharmed x x' → EndsWithTexts user most x x' served served.end
