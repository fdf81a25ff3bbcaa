-- Gets: the objects that are asked for, and the ids that name none (RFC 8620 section 5.1).
use Rattle.std.specs.Prelude.{ℕ, List, [], ◌∷◌, ◌||◌, Bool, true, false, not, Option, Some, None, is_some, length, filter, flat_map, map, sum_by, codes, nat_lt, if◌then◌else◌}
use Rattle.std.specs.List.{list_all, list_any}
use Rattle.std.specs.Option.{option_or}
use Rattle.std.specs.Str.{bytes_eq}
use Rattle.cal_model.specs.Calendar.{is_calendar_property}
use Rattle.cal_model.specs.CreatedIds.{different, object_with_id, resolved_id}
use Rattle.cal_model.specs.Occurrences.{occurrence_named}
use Rattle.cal_model.specs.declared.limits.TheConstants.{MAX_GET_BYTES}
use Rattle.spec_json.specs.Data.{Data, text, list, object, Pair, items_of, members_of}
use Rattle.spec_core.specs.Names.{is_name}
use Rattle.spec_core.specs.declared.limits.TheConstants.{MAX_OBJECTS_IN_GET}
use Rattle.spec_history.specs.Base.{Base}
use Rattle.spec_history.specs.History.{live_at}
use Rattle.spec_history.specs.States.{state_of, state_text}
use Rattle.spec_json.specs.Json.{text_of}
use Rattle.spec_json.specs.Parts.{members_in, some_of}
use Rattle.spec_json.specs.TreeData.{data_of}
use Rattle.spec_calls.specs.declared.call.GetArguments.{GetArguments}
use Rattle.spec_calls.specs.declared.call.MethodError.{MethodError}
use Rattle.spec_calls.specs.declared.call.MethodError.TheVariants.{InvalidArguments, RequestTooLarge}
use Rattle.spec_history.specs.declared.entry.Change.{Change}
use Rattle.spec_history.specs.declared.entry.Kind.{Kind}
use Rattle.spec_history.specs.declared.entry.Kind.TheVariants.{Calendar, Event}
use Rattle.spec_json.specs.declared.tree.Tree.{Tree}
use Rattle.spec_json.specs.declared.tree.Tree.TheVariants.{Object}

-- a property that is asked for; `id` always is
abbrev pub is_asked_for : Option (List (List ℕ)) → Pair → Bool
is_asked_for None p = true
is_asked_for (Some names) p = bytes_eq p.0 (codes "id") || list_any (λ name. bytes_eq name p.0) names

abbrev pub selected : Option (List (List ℕ)) → Tree → Data
selected properties t = object (members_of (filter (is_asked_for properties) (members_in (data_of t))))

-- the object that an id names: a live one, or an occurrence of one
abbrev pub object_or_occurrence : List Change → Kind → List ℕ → Option Tree
object_or_occurrence cs kind id = option_or (object_with_id cs kind id) (occurrence_named cs kind id)

module _ (cs : List Change) (kind : Kind) (created : List (List ℕ × List ℕ)) where
  abbrev pub asked_ids : List (List ℕ) → List (List ℕ)
  asked_ids ids = different (map (resolved_id created) ids)

  -- the objects of these ids, or all in order of creation
  abbrev pub objects_asked : Option (List (List ℕ)) → List Tree
  objects_asked None = live_at cs kind
  objects_asked (Some ids) = flat_map (λ id. some_of (object_or_occurrence cs kind id)) (asked_ids ids)

  abbrev pub ids_not_found : Option (List (List ℕ)) → List (List ℕ)
  ids_not_found None = []
  ids_not_found (Some ids) = filter (λ id. not (is_some (object_or_occurrence cs kind id))) (asked_ids ids)

abbrev pub count_asked : List Change → Kind → Option (List (List ℕ)) → ℕ
count_asked cs kind None = length (live_at cs kind)
count_asked cs kind (Some ids) = length ids

-- a calendar has its properties alone; an event may have any
abbrev pub is_property : Kind → List ℕ → Bool
is_property Calendar name = is_calendar_property name
is_property Event name = is_name name

abbrev pub are_properties : Kind → Option (List (List ℕ)) → Bool
are_properties kind None = true
are_properties kind (Some names) = list_all (is_property kind) names

-- the objects that a get lists, each with the properties asked for
abbrev pub listed : List Change → List (List ℕ × List ℕ) → GetArguments → List Data
listed cs created q = map (selected q.properties) (objects_asked cs q.kind created q.ids)

-- the bytes of the compact texts of these objects
abbrev pub size_of_objects : List Data → ℕ
size_of_objects ds = sum_by (λ d. length (text_of d)) ds

-- of events these have more bytes than a get may list
abbrev pub are_too_large : Kind → List Data → Bool
are_too_large Calendar ds = false
are_too_large Event ds = nat_lt MAX_GET_BYTES (size_of_objects ds)

-- why a get is refused: a name that no property of the kind has, then too many objects, or too large ones
abbrev pub get_error : List Change → List (List ℕ × List ℕ) → GetArguments → Option MethodError
get_error cs created q =
    if not (are_properties q.kind q.properties) then Some InvalidArguments
    else if nat_lt MAX_OBJECTS_IN_GET (count_asked cs q.kind q.ids) || are_too_large q.kind (listed cs created q) then Some RequestTooLarge else None

abbrev pub get_response : Base → Kind → List Change → List Data → List (List ℕ) → Tree
get_response base kind cs objects missing = Object (
    (codes "accountId", text base.account_id) ∷ (codes "list", list (items_of objects))
    ∷ (codes "notFound", list (items_of (map text missing))) ∷ (codes "state", text (state_text (state_of base.generation kind cs))) ∷ [])
