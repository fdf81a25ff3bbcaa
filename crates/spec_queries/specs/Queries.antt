-- What `CalendarEvent/query` and `CalendarEvent/queryChanges` are answered (RFC 8620 sections 5.5 and 5.6, draft JMAP for Calendars).
use Rattle.std.specs.Prelude.{ℕ, ℤ, List, ◌&&◌, ◌||◌, Bool, true, false, not, Option, Some, nat_le, unsigned_abs, unwrap_or, if◌then◌else◌}
use Rattle.std.specs.Option.{option_map_or, option_or}
use Rattle.spec_calls.specs.declared.call.Criteria.{Criteria}
use Rattle.spec_calls.specs.declared.call.MethodError.{MethodError}
use Rattle.spec_calls.specs.declared.call.MethodError.TheVariants.{CannotCalculateChanges, InvalidArguments}
use Rattle.spec_calls.specs.declared.call.Paging.{Paging}
use Rattle.spec_calls.specs.declared.call.QueryArguments.{QueryArguments}
use Rattle.spec_calls.specs.declared.call.QueryChangesArguments.{QueryChangesArguments}
use Rattle.spec_core.specs.declared.numbers.TheConstants.{MAX_UNSIGNED_INT}
use Rattle.spec_history.specs.Base.{Base}
use Rattle.spec_history.specs.declared.entry.Change.{Change}
use Rattle.spec_history.specs.declared.entry.Kind.TheVariants.{Event}
use Rattle.spec_json.specs.Data.{whole}
use Rattle.spec_json.specs.declared.tree.Tree.{Tree}
use Rattle.spec_queries.specs.Changed.{changed_response, size_refusal}
use Rattle.spec_queries.specs.Criteria.{criteria_refusal, order_of, sight_of}
use Rattle.spec_queries.specs.Expanded.{expanded_anchor_refusal, expanded_response}
use Rattle.spec_queries.specs.Found.{anchor_refusal, found_response}
use Rattle.spec_queries.specs.States.{is_known_state, is_maximum}
use Rattle.property_table.specs.Values.{is_unsigned_int}
use Rattle.time_text.specs.State.{number_named}

-- an Int (RFC 8620 section 1.3)
abbrev pub is_int : ℤ → Bool
is_int n = nat_le (unsigned_abs n) MAX_UNSIGNED_INT

-- positions and offsets are Ints, a limit is an UnsignedInt
abbrev pub is_paging : Paging → Bool
is_paging p = (is_int p.position && is_int p.anchor_offset) && option_map_or (λ n. is_unsigned_int (whole n)) p.limit true

-- the arguments of a query whose results are events, and of one whose results are occurrences
abbrev pub events_asked : Criteria → Paging → QueryArguments
events_asked criteria paging = record { criteria = criteria; expand = false; paging = paging }

abbrev pub occurrences_asked : Criteria → Paging → QueryArguments
occurrences_asked criteria paging = record { criteria = criteria; expand = true; paging = paging }

module _ (base : Base) (cs : List Change) (q : QueryArguments) where
  abbrev pub query_refusal : Option MethodError
  query_refusal =
      if not (is_paging q.paging) then Some InvalidArguments
      else option_or (criteria_refusal base.zones q.criteria q.expand)
      (if q.expand then expanded_anchor_refusal base.zones cs q.criteria q.paging else anchor_refusal (sight_of base.zones q.criteria) (order_of q.criteria) cs q.paging)

  abbrev pub query_response : Tree
  query_response =
      if q.expand then expanded_response base.zones cs q.criteria base q.paging
      else found_response (sight_of base.zones q.criteria) (order_of q.criteria) cs q.paging base

module _ (base : Base) (cs : List Change) (q : QueryChangesArguments) where
  -- the number of the state that the client knows
  abbrev pub number_known : ℕ
  number_known = unwrap_or (number_named base.generation q.since) 0

  abbrev pub since_refusal : Option MethodError
  since_refusal =
      if q.expand || not (is_known_state base.generation Event cs q.since) then Some CannotCalculateChanges
      else size_refusal (sight_of base.zones q.criteria) (order_of q.criteria) cs q number_known

  abbrev pub query_changes_refusal : Option MethodError
  query_changes_refusal =
      if not (is_maximum q.max) then Some InvalidArguments
      else option_or (criteria_refusal base.zones q.criteria false) since_refusal

  abbrev pub query_changes_response : Tree
  query_changes_response = changed_response (sight_of base.zones q.criteria) (order_of q.criteria) cs base q number_known
