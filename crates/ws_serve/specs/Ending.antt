-- What a link gives, and why a socket ends.
use Rattle.std.specs.Prelude.{◌≡◌, ℕ, List, [], ◌∷◌, Option, Result, Ok, Err}
use Rattle.io_edge.specs.Outside.{Rose}
use Rattle.spec_sockets.specs.Links.{HasNoMoreMessages, LinkShown, TakesMessages}
use Rattle.spec_sockets.specs.declared.message.WsMessage.TheVariants.{Binary}
use Rattle.spec_sockets.specs.declared.served.WsEnd.{WsEnd}
use Rattle.spec_sockets.specs.declared.served.WsEnd.TheVariants as end
use Rattle.ws_edge.specs.declared.link.LinkError.{LinkError}
use Rattle.ws_edge.specs.declared.link.LinkError.TheVariants as fault
use Rattle.ws_serve.specs.Turning.{as_messages}

-- where its link did nothing
abbrev pub end_of_link : LinkError → WsEnd
end_of_link fault.Failed = end.LinkFault
end_of_link fault.NoMemory = end.NoMemory

-- a text was taken, or none; or the socket ends for what was taken, or for what the link did
abbrev pub IsNextText : LinkShown → LinkShown → Result (Option (List ℕ)) WsEnd → Type 0
IsNextText l l' (Ok text) = TakesMessages l.left l'.left (as_messages text)
IsNextText l l' (Err end.Closed) = TakesMessages l.left l'.left [] × HasNoMoreMessages l'.left
IsNextText l l' (Err end.Binary) = TakesMessages l.left l'.left (Binary ∷ [])
IsNextText l l' (Err end.LinkFault) = (l'.left ≡ l.left) × Rose l.faults l'.faults
IsNextText l l' (Err end.NoMemory) = l'.left ≡ l.left
IsNextText l l' (Err end.Quota) = ⊥
IsNextText l l' (Err end.PassSpent) = ⊥
