-- What contracts see of a link of WebSocket messages.
use Rattle.std.specs.Prelude.{◌≡◌, ℕ, List, [], ◌++◌, Option, Some, None, ⊤}
use Rattle.spec_sockets.specs.declared.message.WsMessage.{WsMessage}

-- The messages that are left and the texts that were sent, where it tells them, and how often a call has failed. The count stands at the last value of a u64.
pub record LinkShown : Type 0 where
  pub left : Option (List WsMessage)
  pub sent : Option (List (List ℕ))
  pub faults : ℕ

-- these messages were taken, and the others are left
abbrev pub TakesMessages : Option (List WsMessage) → Option (List WsMessage) → List WsMessage → Type 0
TakesMessages None now taken = ⊤
TakesMessages (Some before) None taken = ⊥
TakesMessages (Some before) (Some now) taken = before ≡ taken ++ now

-- no message is left
abbrev pub HasNoMoreMessages : Option (List WsMessage) → Type 0
HasNoMoreMessages None = ⊤
HasNoMoreMessages (Some messages) = messages ≡ []

-- these texts were sent behind those before
abbrev pub SendsTexts : Option (List (List ℕ)) → Option (List (List ℕ)) → List (List ℕ) → Type 0
SendsTexts before None texts = ⊤
SendsTexts None (Some now) texts = ⊥
SendsTexts (Some before) (Some now) texts = now ≡ before ++ texts
