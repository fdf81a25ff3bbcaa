-- What the reply to a look shows of a state, and what a client is sent of it: a `StateChange` (RFC 8620 section 7.1).
use Rattle.std.specs.Prelude.{ℕ, List, [], ◌∷◌, Bool, false, Option, Some, None, codes, option_and_then, unwrap_or, if◌then◌else◌}
use Rattle.std.specs.Option.{option_map_or, option_or}
use Rattle.std.specs.Str.{bytes_eq}
use Rattle.spec_calls.specs.declared.call.Asks.TheVariants.{Get}
use Rattle.spec_calls.specs.declared.call.Call.{Call}
use Rattle.spec_calls.specs.declared.call.Reply.{Reply}
use Rattle.spec_history.specs.declared.entry.Kind.{Kind}
use Rattle.spec_json.specs.Data.{Data, Pair, lookup, members_of, object, text}
use Rattle.spec_json.specs.Edit.{with_pair}
use Rattle.spec_json.specs.Json.{text_of}
use Rattle.spec_json.specs.Parts.{as_object, text_at}
use Rattle.spec_json.specs.TreeData.{data_of}
use Rattle.spec_push.specs.Watching.{data_type_name}
use Rattle.spec_push.specs.declared.watched.Watched.{Watched}

-- the call that asks for the state of a type: a get of no object (RFC 8620 section 5.1)
abbrev pub state_call : Kind → Call
state_call kind = record { created = []; asks = Get (record { kind = kind; ids = Some []; properties = None }) }

-- whether this is the state that was told last
abbrev pub is_told : Watched → List ℕ → Bool
is_told w state = option_map_or (λ told. bytes_eq told state) w.told false

abbrev pub unless_told : Watched → List ℕ → Option (List ℕ)
unless_told w state = if is_told w state then None else Some state

-- the state that the reply shows, where it isn't the one that was told last
abbrev pub news_in : Watched → Reply → Option (List ℕ)
news_in w reply = option_and_then (unless_told w) (text_at (codes "state") (data_of reply.arguments))

-- what is watched once that is told
abbrev pub once_told : Watched → Reply → Watched
once_told w reply = record w { told = option_or (news_in w reply) w.told; place = Some reply.place }

-- the states of an account, by type, among those that are to be told
abbrev pub states_of : List ℕ → List Pair → List Pair
states_of id changed = unwrap_or (option_and_then as_object (lookup id changed)) []

-- those that are to be told, and this state
abbrev pub with_state : Watched → List ℕ → List Pair → List Pair
with_state w state changed = with_pair w.id (object (members_of (with_pair (data_type_name w.kind) (text state) (states_of w.id changed)))) changed

abbrev pub with_news : Watched → Reply → List Pair → List Pair
with_news w reply changed = option_map_or (λ state. with_state w state changed) (news_in w reply) changed

-- the object that tells these states: for each account those of its types
abbrev pub state_change : List Pair → Data
state_change changed = object (members_of ((codes "@type", text (codes "StateChange")) ∷ (codes "changed", object (members_of changed)) ∷ []))

-- what is sent where these states are to be told: nothing where there are none
abbrev pub told_of : List Pair → List (List ℕ)
told_of [] = []
told_of (p ∷ ps) = text_of (state_change (p ∷ ps)) ∷ []
