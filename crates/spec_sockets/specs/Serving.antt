-- What serving a socket does, whatever texts come and whatever others do meanwhile.
use Rattle.std.specs.Prelude.{◌≡◌, ◌⊎◌, ℕ, ℤ, ◌+◌, ◌<◌, ◌≤◌, List, [], ◌∷◌, ◌++◌, Option, length, sum_by, ⊤}
use Rattle.io_edge.specs.Outside.{Rose}
use Rattle.spec_batch.specs.Chain.{Shown}
use Rattle.spec_batch.specs.declared.desk.DeskError.{DeskError}
use Rattle.spec_batch.specs.declared.desk.DeskError.TheVariants as reason
use Rattle.spec_core.specs.declared.user.User.{User}
use Rattle.spec_sockets.specs.Links.{HasNoMoreMessages, LinkShown, SendsTexts, TakesMessages}
use Rattle.spec_sockets.specs.Turns.{AllTurnsFit, Turn, TurnBegun, TurnFits, TurnsTold, look_size, made_in_looks, replies_in, sent_in, taken_in, watched_behind_all}
use Rattle.spec_sockets.specs.declared.message.WsMessage.{WsMessage}
use Rattle.spec_sockets.specs.declared.message.WsMessage.TheVariants.{Binary}
use Rattle.spec_sockets.specs.declared.served.TheConstants.{MAX_LOOK_CALLS, MAX_TURNS}
use Rattle.spec_sockets.specs.declared.served.WsEnd.{WsEnd}
use Rattle.spec_sockets.specs.declared.served.WsEnd.TheVariants as end
use Rattle.spec_sockets.specs.declared.served.WsServed.{WsServed}

-- what is shown of all that a socket touches
pub record SocketSetting : Type 0 where
  pub link : LinkShown
  pub clock : Option (ℕ → ℤ)
  pub desk : Shown

-- why a socket ends where the desk didn't answer all calls of a turn
abbrev pub end_of_desk : DeskError → WsEnd
end_of_desk reason.PassSpent = end.PassSpent
end_of_desk reason.NoMemory = end.NoMemory

-- so many texts were replied to, a look at all that is watched would be too many calls, or there were as many turns as may be
abbrev pub IsSpent : User → ℕ → List Turn → Type 0
IsSpent user most turns = (length (replies_in turns) ≡ most) ⊎ (MAX_LOOK_CALLS < length (made_in_looks turns) + length (watched_behind_all user turns)) ⊎ (length turns ≡ MAX_TURNS)

-- `turns` are those that were had whole: what they send was sent. `unfinished` is empty, or the one turn behind them whose calls were made, maybe not all, and of which nothing was sent.
module _ (user : User) (most : ℕ) (taken : List WsMessage) (turns unfinished : List Turn) where
  -- all turns were had whole, and this was taken behind them
  abbrev pub AreAllHad : List WsMessage → Type 0
  AreAllHad behind = (unfinished ≡ []) × (taken ≡ taken_in turns ++ behind)

  -- all turns but at most the last were had whole, and nothing else was taken
  abbrev pub AllButLast : Type 0
  AllButLast = taken ≡ taken_in (turns ++ unfinished)

  -- all calls of the last turn were made, and what it sends wasn't sent
  abbrev pub IsUnsent : Type 0
  IsUnsent = (t : Turn) × (unfinished ≡ t ∷ []) × TurnFits user (watched_behind_all user turns) t

  -- the calls of the last turn were made, maybe not all
  abbrev pub IsCutShort : DeskError → Shown → Shown → Type 0
  IsCutShort e u v = (t : Turn) × (unfinished ≡ t ∷ []) × TurnBegun user (watched_behind_all user turns) e u v t

  module _ (x x' : SocketSetting) (u : Shown) where
    -- when each end comes, where the desk was in the state u behind the calls that it answered
    abbrev pub SocketEndHow : WsEnd → Type 0
    SocketEndHow end.Closed = AreAllHad [] × HasNoMoreMessages x'.link.left
    SocketEndHow end.Binary = AreAllHad (Binary ∷ [])
    SocketEndHow end.Quota = AreAllHad [] × IsSpent user most turns
    SocketEndHow end.LinkFault = ((unfinished ≡ []) ⊎ IsUnsent) × AllButLast × Rose x.link.faults x'.link.faults
    SocketEndHow end.PassSpent = IsCutShort reason.PassSpent u x'.desk × AllButLast
    SocketEndHow end.NoMemory = (((unfinished ≡ []) × (x'.desk ≡ u)) ⊎ IsCutShort reason.NoMemory u x'.desk) × AllButLast

-- what the end leaves of the desk behind the calls that it answered: nothing else, but where the desk answered no more
abbrev pub SocketRests : WsEnd → Shown → Shown → Type 0
SocketRests end.PassSpent u v = ⊤
SocketRests end.NoMemory u v = ⊤
SocketRests _ u v = v ≡ u

-- A socket of at most `most` texts was served so, from the one setting to the other: what its turns send was sent, in order, and nothing else.
pub record ServesSocket (user : User) (most : ℕ) (x x' : SocketSetting) (served : WsServed) : Type 0 where
  pub taken : List WsMessage
  pub turns : List Turn
  pub unfinished : List Turn
  pub took : TakesMessages x.link.left x'.link.left taken
  pub later : x.link.faults ≤ x'.link.faults
  pub count : length (replies_in turns) ≡ served.replies
  pub room : served.replies + length (replies_in unfinished) ≤ most
  pub looks : length (made_in_looks turns) + sum_by look_size unfinished ≤ MAX_LOOK_CALLS
  pub fit : AllTurnsFit user [] turns
  -- the desk behind all calls that it answered
  pub desk : Shown
  pub told : TurnsTold x.clock x'.clock [] served.fronts.items x.desk desk (turns ++ unfinished)
  pub rests : SocketRests served.end desk x'.desk
  pub sent : SendsTexts x.link.sent x'.link.sent (sent_in turns)
  pub how : SocketEndHow user most taken turns unfinished x x' desk served.end
