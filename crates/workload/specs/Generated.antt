-- The calls of a workload, by the numbers of a generator.
use Rattle.std.specs.Prelude.{ℕ, zero, suc, ◌+◌, ◌*◌, ◌%◌, ℤ, pos, List, [], ◌∷◌, Some, None, true, codes, decimal}
use Rattle.spec_calls.specs.declared.call.Asks.{Asks}
use Rattle.spec_calls.specs.declared.call.Asks.TheVariants.{Changes, Set}
use Rattle.spec_calls.specs.declared.call.Call.{Call}
use Rattle.spec_calls.specs.declared.call.ChangesArguments.{ChangesArguments}
use Rattle.spec_history.specs.declared.entry.Kind.{Kind}
use Rattle.spec_history.specs.declared.entry.Kind.TheVariants.{Calendar, Event}
use Rattle.spec_json.specs.Data.{Data, Pair, items_of, list, members_of, object, text, truth, whole}
use Rattle.spec_time.specs.LocalTimes.{local_text, seconds_of_clock}
use Rattle.spec_time.specs.Walls.{wall_at}

-- ---- the generator

-- what a draw makes of the number before it
abbrev pub drawn : ℕ → ℕ
drawn x = (75 * x + 74) % 65537

-- ---- the calls

abbrev pub call_asking : Asks → Call
call_asking asks = record { created = []; asks = asks }

-- the creation id of what a call creates
abbrev pub creation_id : List ℕ
creation_id = codes "new"

-- a set that creates one object (RFC 8620 section 5.3)
abbrev pub create_call : Kind → Data → Call
create_call kind created = call_asking (Set (record {
  kind = kind;
  if_in_state = None;
  create = Some ((creation_id, created) ∷ []);
  update = None;
  destroy = None;
  remove_events = None;
}))

-- the calendar of a room with the clock of UTC
abbrev pub room_call : Call
room_call = create_call Calendar (object (members_of ((codes "name", text (codes "room")) ∷ (codes "resourceZone", text (codes "Etc/UTC")) ∷ [])))

-- a weekly rule
abbrev pub weekly : ℕ → Data
weekly interval = object (members_of ((codes "frequency", text (codes "weekly")) ∷ (codes "interval", whole (pos interval)) ∷ []))

-- an event of one hour in that calendar, from a wall second on and again each so many weeks
abbrev pub event : ℕ → ℤ → ℕ → List Pair
event request start interval =
    (codes "calendarIds", object (members_of ((codes "C1", truth true) ∷ [])))
    ∷ (codes "duration", text (codes "PT1H"))
    ∷ (codes "recurrenceRules", list (items_of (weekly interval ∷ [])))
    ∷ (codes "start", text (local_text start))
    ∷ (codes "timeZone", text (codes "Etc/UTC"))
    ∷ (codes "uid", text (119 ∷ decimal request)) ∷ []

-- the request of a number, by its three draws
abbrev pub request_call : ℕ → ℕ → ℕ → ℕ → Call
request_call request a b c = create_call Event (object (members_of (event request (wall_at (pos (19723 + a % 700)) (seconds_of_clock (8 + b % 10) 0 0)) (1 + c % 4))))

-- so many requests from this one on, where the generator has this number before them
abbrev pub request_calls : ℕ → ℕ → ℕ → List Call
request_calls request x zero = []
request_calls request x (suc count) =
    request_call request (drawn x) (drawn (drawn x)) (drawn (drawn (drawn x))) ∷ request_calls (suc request) (drawn (drawn (drawn x))) count

-- a call for the changes of events since a state, at most 500 (RFC 8620 section 5.2)
abbrev pub page_arguments : List ℕ → ChangesArguments
page_arguments since = record { kind = Event; since = since; max = Some (pos 500) }

abbrev pub page_call : List ℕ → Call
page_call since = call_asking (Changes (page_arguments since))
