-- What is taken of a link.
use Rattle.std.specs.Prelude.{List, [], ◌∷◌}
use Rattle.spec_sockets.specs.declared.message.WsMessage.{WsMessage}
use Rattle.spec_sockets.specs.declared.message.WsMessage.TheVariants as message
use Rattle.ws_edge.specs.declared.link.WsIn.{WsIn}
use Rattle.ws_edge.specs.declared.link.WsIn.TheVariants as given

-- the message that a link gave, if it gave one
abbrev pub taken_by : WsIn → List WsMessage
taken_by (given.Text text) = message.Text text ∷ []
taken_by given.Binary = message.Binary ∷ []
taken_by given.Quiet = []
taken_by given.Closed = []
