-- What the forms in memory tell.
use Rattle.std.specs.Prelude.{◌≤◌, ℕ, List, [], ◌∷◌, Option, flat_map, length, map}
use native.Mathlib.Omega.{arith}
use Rattle.spec_json.specs.Parts.{some_of}
use Rattle.spec_sockets.specs.declared.message.WsMessage.{WsMessage}
use Rattle.ws_edge.specs.declared.memory_accept.MemAccept.{MemAccept}
use Rattle.ws_edge.specs.declared.memory_link.MemLink.{MemLink}
use Rattle.ws_edge.specs.declared.memory_socket_host.MemSocketHost.{MemSocketHost}

-- the messages, without the times in which none comes
abbrev pub messages_among : List (Option WsMessage) → List WsMessage
messages_among waiting = flat_map some_of waiting

-- the numbers of the calls that are to fail, from 0
abbrev pub failing_nexts : MemLink → List ℕ
failing_nexts l = l.failing_next.numbers.items

abbrev pub failing_sends : MemLink → List ℕ
failing_sends l = l.failing_send.numbers.items

abbrev pub failing_handshakes : MemAccept → List ℕ
failing_handshakes a = a.failing.numbers.items

abbrev pub failing_accepters : {W : Type 0} → MemSocketHost W → List ℕ
failing_accepters h = h.failing.numbers.items

-- lists of which one is no longer than the other, element by element
pub no_more_mapped : {A B C D : Type 0} (f : A → B) (g : C → D) (xs : List A) (ys : List C) → length xs ≤ length ys → length (map f xs) ≤ length (map g ys)
no_more_mapped f g [] ys h = omega (arith)
no_more_mapped f g (x ∷ xs) [] h = absurd (omega (arith, h))
no_more_mapped f g (x ∷ xs) (y ∷ ys) h = (let rest = no_more_mapped f g xs ys (omega (arith, h)) in omega (arith, rest))
