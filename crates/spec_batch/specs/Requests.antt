-- What bytes are a request (RFC 8620 sections 3.2, 3.3 and 3.6.1).
use Rattle.std.specs.Prelude.{ℕ, List, [], ◌==◌, ◌&&◌, Bool, false, length, get_or, Option, Some, None, option_and_then, unwrap_or, if◌then◌else◌, codes}
use Rattle.std.specs.List.{list_all}
use Rattle.spec_json.specs.Data.{Data, null, text, object, Pair, field, pairs_of}
use Rattle.spec_core.specs.Id.{is_id}
use Rattle.spec_json.specs.Parts.{list_at, as_text, as_list, as_object, all_some}
use Rattle.spec_batch.specs.declared.request.Invocation.{Invocation}
use Rattle.spec_batch.specs.declared.request.Request.{Request}

abbrev pub invocation_with : Option (List ℕ) → Option (List Pair) → Option (List ℕ) → Option Invocation
invocation_with (Some name) (Some arguments) (Some id) = Some (record { name = name; arguments = arguments; call_id = id })
invocation_with _ _ _ = None

-- a list of exactly a text, an object and a text
abbrev pub invocation_in : List Data → Option Invocation
invocation_in ds =
    if length ds == 3
    then invocation_with (as_text (get_or ds 0 null)) (as_object (get_or ds 1 null)) (as_text (get_or ds 2 null))
    else None

abbrev pub invocation_of : Data → Option Invocation
invocation_of d = option_and_then invocation_in (as_list d)

abbrev pub is_id_value : Data → Bool
is_id_value (text s) = is_id s
is_id_value _ = false

-- a key and a value that are Ids
abbrev pub is_id_pair : Pair → Bool
is_id_pair p = is_id p.0 && is_id_value p.1

-- a creation id and the id that it stands for
abbrev pub id_pair_of : Pair → List ℕ × List ℕ
id_pair_of p = (p.0, unwrap_or (as_text p.1) [])

abbrev pub if_ids : List Pair → Option (Option (List Pair))
if_ids ps = if list_all is_id_pair ps then Some (Some ps) else None

-- The member `createdIds`: absent or null, or an object whose keys and values are Ids.
abbrev pub created_ids_of : Option Data → Option (Option (List Pair))
created_ids_of None = Some None
created_ids_of (Some null) = Some None
created_ids_of (Some (object ms)) = if_ids (pairs_of ms)
created_ids_of _ = None

abbrev pub request_with : Option (List (List ℕ)) → Option (List Invocation) → Option (Option (List Pair)) → Option Request
request_with (Some using) (Some calls) (Some ids) = Some (record { using = using; calls = calls; created_ids = ids })
request_with _ _ _ = None

-- An object with `using`, a list of texts, `methodCalls`, a list of invocations, and maybe `createdIds`.
abbrev pub request_of : Data → Option Request
request_of d = request_with
    (option_and_then (all_some as_text) (list_at (codes "using") d))
    (option_and_then (all_some invocation_of) (list_at (codes "methodCalls") d))
    (created_ids_of (field (codes "createdIds") d))
