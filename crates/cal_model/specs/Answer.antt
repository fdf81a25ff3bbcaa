-- What a call is answered at a history, and what it adds: the standard methods (RFC 8620 section 5), free and busy times (draft JMAP for
-- Calendars), and slots of resources (a method of this server's own).
use Rattle.std.specs.Prelude.{ℕ, ℤ, suc, List, [], ◌∷◌, Bool, Option, Some, None, length, map, unwrap_or, Result, Ok, Err}
use Rattle.cal_model.specs.Changes.{changes_response, changes_refusal}
use Rattle.cal_model.specs.Gets.{get_response, get_error, ids_not_found, listed}
use Rattle.cal_model.specs.Operations.{Ground}
use Rattle.cal_model.specs.SetReply.{set_arguments}
use Rattle.cal_model.specs.Sets.{new_ids, objects_of, set_changes, set_refusal}
use Rattle.spec_availability.specs.Availability.{availability_refusal, availability_response}
use Rattle.spec_calls.specs.declared.call.Asks.{Asks}
use Rattle.spec_calls.specs.declared.call.Asks.TheVariants.{Availability, Changes, Get, Query, QueryChanges, Set, Slot}
use Rattle.spec_calls.specs.declared.call.AvailabilityArguments.{AvailabilityArguments}
use Rattle.spec_calls.specs.declared.call.Call.{Call}
use Rattle.spec_calls.specs.declared.call.ChangesArguments.{ChangesArguments}
use Rattle.spec_calls.specs.declared.call.GetArguments.{GetArguments}
use Rattle.spec_calls.specs.declared.call.MethodError.{MethodError}
use Rattle.spec_calls.specs.declared.call.MethodError.TheVariants.{ServerFail}
use Rattle.spec_calls.specs.declared.call.QueryArguments.{QueryArguments}
use Rattle.spec_calls.specs.declared.call.QueryChangesArguments.{QueryChangesArguments}
use Rattle.spec_calls.specs.declared.call.Reply.{Reply}
use Rattle.spec_calls.specs.declared.call.SetArguments.{SetArguments}
use Rattle.spec_calls.specs.declared.call.SlotArguments.{SlotArguments}
use Rattle.spec_history.specs.Base.{Base}
use Rattle.spec_history.specs.History.{changes_of}
use Rattle.spec_history.specs.declared.entry.Change.{Change}
use Rattle.spec_history.specs.declared.entry.Entry.{Entry}
use Rattle.spec_history.specs.declared.entry.Kind.{Kind}
use Rattle.spec_history.specs.declared.stamp.Stamp.{Stamp}
use Rattle.spec_json.specs.declared.tree.Tree.{Tree}
use Rattle.spec_json.specs.declared.tree.Tree.TheVariants.{Null}
use Rattle.spec_queries.specs.Queries.{query_changes_refusal, query_changes_response, query_refusal, query_response}
use Rattle.spec_slots.specs.AccountSlots.{slot_answered}
use Rattle.spec_slots.specs.Texts.{slot_object}
use Rattle.spec_slots.specs.declared.slot.FoundSlot.{FoundSlot}
use Rattle.time_text.specs.State.{number_named}

-- the arguments of a response, and the ids that the call created (RFC 8620 sections 3.3 and 3.4)
abbrev pub answered : List Entry → Tree → List (List ℕ × List ℕ) → Reply
answered h arguments created = record { arguments = arguments; error = None; created = created; place = length h }

-- a method-level error (RFC 8620 section 3.6.2)
abbrev pub refused : List Entry → MethodError → Reply
refused h error = record { arguments = Null; error = Some error; created = []; place = length h }

abbrev pub unless_error : List Entry → Option MethodError → Reply → Reply
unless_error h None reply = reply
unless_error h (Some e) reply = refused h e

-- the reply to a call whose entries could not be kept (RFC 8620 section 3.6.2)
abbrev pub unkept_answer : List Entry → Reply
unkept_answer h = refused h ServerFail

-- the changes of a call that isn't refused
abbrev pub unless_refused : Option MethodError → List Change → List Change
unless_refused None cs = cs
unless_refused (Some e) cs = []

-- `/get` (RFC 8620 section 5.1)
abbrev pub get_answer : Base → List Entry → List (List ℕ × List ℕ) → GetArguments → Reply
get_answer base h created q = unless_error h (get_error (changes_of h) created q)
    (answered h (get_response base q.kind (changes_of h) (listed (changes_of h) created q) (ids_not_found (changes_of h) q.kind created q.ids)) [])

-- `/changes` (RFC 8620 section 5.2)
abbrev pub changes_answer : Base → List Entry → ChangesArguments → Reply
changes_answer base h q = unless_error h (changes_refusal base.generation (changes_of h) q)
    (answered h (changes_response base (changes_of h) q (unwrap_or (number_named base.generation q.since) 0)) [])

-- `/query` (RFC 8620 section 5.5)
abbrev pub query_answer : Base → List Entry → QueryArguments → Reply
query_answer base h q = unless_error h (query_refusal base (changes_of h) q) (answered h (query_response base (changes_of h) q) [])

-- `/queryChanges` (RFC 8620 section 5.6)
abbrev pub query_changes_answer : Base → List Entry → QueryChangesArguments → Reply
query_changes_answer base h q = unless_error h (query_changes_refusal base (changes_of h) q) (answered h (query_changes_response base (changes_of h) q) [])

-- `Principal/getAvailability` (draft JMAP for Calendars)
abbrev pub availability_answer : Base → List Entry → AvailabilityArguments → Reply
availability_answer base h q = unless_error h (availability_refusal base q) (answered h (availability_response base (changes_of h) q) [])

abbrev pub slot_reply : Base → List Entry → Result FoundSlot MethodError → Reply
slot_reply base h (Ok found) = answered h (slot_object base.account_id found) []
slot_reply base h (Err e) = refused h e

-- `Resource/findSlot`
abbrev pub slot_answer : Base → List Entry → SlotArguments → Reply
slot_answer base h q = slot_reply base h (slot_answered base.zones (changes_of h) q)

module _ (base : Base) (h : List Entry) (moment : ℤ) (created : List (List ℕ × List ℕ)) where
  abbrev pub ground : Ground
  ground = record { base = base; moment = moment }

  -- `/set` (RFC 8620 section 5.3)
  abbrev pub set_answer : SetArguments → Reply
  set_answer q = unless_error h (set_refusal base.generation q.kind (changes_of h) (objects_of q) q.if_in_state q.remove_events)
      (answered h (set_arguments ground q.kind created (changes_of h) (objects_of q)) (new_ids ground q.kind created (changes_of h) (objects_of q)))

  abbrev pub set_added : SetArguments → List Change
  set_added q = unless_refused (set_refusal base.generation q.kind (changes_of h) (objects_of q) q.if_in_state q.remove_events) (set_changes ground q.kind created (changes_of h) (objects_of q))

  abbrev pub answer_to : Asks → Reply
  answer_to (Get q) = get_answer base h created q
  answer_to (Changes q) = changes_answer base h q
  answer_to (Set q) = set_answer q
  answer_to (Query q) = query_answer base h q
  answer_to (QueryChanges q) = query_changes_answer base h q
  answer_to (Availability q) = availability_answer base h q
  answer_to (Slot q) = slot_answer base h q

  -- the changes that a call makes
  abbrev pub changes_by : Asks → List Change
  changes_by (Get q) = []
  changes_by (Changes q) = []
  changes_by (Set q) = set_added q
  changes_by (Query q) = []
  changes_by (QueryChanges q) = []
  changes_by (Availability q) = []
  changes_by (Slot q) = []

abbrev pub entry_of : Stamp → ℕ → Change → Entry
entry_of stamp part c = record { author = stamp.author; turn = stamp.turn; part = part; moment = stamp.moment; change = c }

-- the entries of a call's changes, from this part on
abbrev pub entries_from : Stamp → ℕ → List Change → List Entry
entries_from stamp part [] = []
entries_from stamp part (c ∷ cs) = entry_of stamp part c ∷ entries_from stamp (suc part) cs

-- the reply to a call at a moment
abbrev pub answer : Base → List Entry → Call → ℤ → Reply
answer base h call moment = answer_to base h moment call.created call.asks

-- the entries that a call adds
abbrev pub added : Base → List Entry → Call → Stamp → List Entry
added base h call stamp = entries_from stamp 0 (changes_by base h stamp.moment call.created call.asks)
