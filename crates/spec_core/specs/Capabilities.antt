-- The capabilities that requests may use (RFC 8620 sections 2 and 3.3, RFC 8887 section 3, draft JMAP for Calendars).
use Rattle.std.specs.Prelude.{ℕ, List, ◌||◌, Bool, codes}
use Rattle.std.specs.Str.{bytes_eq}

abbrev pub core : List ℕ
core = codes "urn:ietf:params:jmap:core"

abbrev pub calendars : List ℕ
calendars = codes "urn:ietf:params:jmap:calendars"

abbrev pub availability : List ℕ
availability = codes "urn:ietf:params:jmap:principals:availability"

-- an extension of this server's own (RFC 8620 sections 1.8 and 9.4)
abbrev pub slots : List ℕ
slots = codes "https://jmapd.example/slots"

-- JMAP over WebSocket (RFC 8887 section 3); it has no methods
abbrev pub websocket : List ℕ
websocket = codes "urn:ietf:params:jmap:websocket"

-- a capability that a request may use
abbrev pub is_capability : List ℕ → Bool
is_capability u = bytes_eq u core || (bytes_eq u calendars || (bytes_eq u availability || (bytes_eq u slots || bytes_eq u websocket)))
