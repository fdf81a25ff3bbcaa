-- What is written on a stream of events, and when (RFC 8620 section 7.3; HTML section 9.2).
use Rattle.std.specs.Prelude.{ℕ, List, [], ◌++◌, Bool, true, false, ◌&&◌, ◌||◌, not, Option, Some, None, codes, decimal, fold, nat_le, unwrap_or, if◌then◌else◌}
use Rattle.std.specs.Option.{option_map_or}
use Rattle.std.specs.Str.{bytes_eq}
use Rattle.hex.specs.Hex.{encode_lower}
use Rattle.sha2.specs.Sha256.{sha256}
use Rattle.event_source.specs.declared.query.CloseAfter.{CloseAfter}
use Rattle.event_source.specs.declared.query.CloseAfter.TheVariants as close_after
use Rattle.event_source.specs.declared.stream.EventStream.{EventStream}
use Rattle.event_source.specs.declared.stream.TheConstants.{COMMENT_SECONDS}
use Rattle.spec_json.specs.Data.{Pair, members_of, object}
use Rattle.spec_json.specs.Edit.{put_all, with_pair}
use Rattle.spec_json.specs.Json.{Reading, not_json, not_whole, reading, text_of, value}
use Rattle.spec_json.specs.Parts.{members_in, object_at}
use Rattle.spec_push.specs.StateChanges.{states_of}

-- ---- what a client knows: for each account the states of its types

-- the states that a StateChange tells, by account (RFC 8620 section 7.1)
abbrev pub states_told_by : Reading → List Pair
states_told_by not_json = []
states_told_by not_whole = []
states_told_by (value d) = unwrap_or (object_at (codes "changed") d) []

-- what is known once the states of an account are told too
abbrev pub with_account : List Pair → Pair → List Pair
with_account known p = with_pair p.0 (object (members_of (put_all (members_in p.1) (states_of p.0 known)))) known

-- what is known once a StateChange of this text is told
abbrev pub known_behind : List Pair → List ℕ → List Pair
known_behind known text = fold with_account known (states_told_by (reading text))

-- the id that stands for what is known
abbrev pub event_id : List Pair → List ℕ
event_id known = encode_lower (sha256 (text_of (object (members_of known))))

-- ---- events

-- a StateChange of this text, which has no line ends
abbrev pub state_event : List ℕ → List ℕ → List ℕ
state_event id text = codes "event: state\nid: " ++ id ++ codes "\ndata: " ++ text ++ codes "\n\n"

-- a ping, which tells the interval in seconds and sets no id
abbrev pub ping_event : ℕ → List ℕ
ping_event interval = codes "event: ping\ndata: {\"interval\":" ++ decimal interval ++ codes "}\n\n"

-- a line that is no event, and that a client passes over
abbrev pub comment : List ℕ
comment = codes ":\n"

-- what is due so many seconds behind what was written last: a ping where the client asked for pings, and else a comment, by which a peer that is gone shows
abbrev pub due_after : Option ℕ → ℕ → Option (List ℕ)
due_after (Some interval) seconds = if nat_le interval seconds then Some (ping_event interval) else None
due_after None seconds = if nat_le COMMENT_SECONDS seconds then Some comment else None

-- ---- streams

-- whether the client has the states that it would know behind this text: it named them as it connected, and was told nothing since
abbrev pub is_had : EventStream → List ℕ → Bool
is_had s text = option_map_or (λ id. bytes_eq id (event_id (known_behind s.known text))) s.last_event_id false

-- the event for a StateChange, where the client hasn't those states already
abbrev pub event_for : EventStream → List ℕ → Option (List ℕ)
event_for s text = if is_had s text then None else Some (state_event (event_id (known_behind s.known text)) text)

abbrev pub closes_after_state : CloseAfter → Bool
closes_after_state close_after.State = true
closes_after_state close_after.Never = false

-- the stream behind a StateChange: it has ended where its first event was to be the last
abbrev pub stream_behind : EventStream → List ℕ → EventStream
stream_behind s text = record s {
  known = known_behind s.known text;
  last_event_id = None;
  has_ended = s.has_ended || (closes_after_state s.query.close_after && not (is_had s text));
}
