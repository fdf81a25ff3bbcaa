-- What the grammar's values are read as, in terms of `serde_json`'s reading.
use Rattle.std.specs.Prelude.{List, [], ◌∷◌, ◌++◌, Option, Some, None, option_map, option_and_then}
use Rattle.json.specs.Json as json
use Rattle.serde_json.specs.Read.{of_json}
use Rattle.spec_json.specs.Data.{Data, list, items_of}
use Rattle.spec_json.specs.Json.{whole_of}
use Rattle.json_edge.specs.FoundMembers.{Found}

-- No value where a number is too large for a float; and else the value, none where a number of it isn't whole.
abbrev pub value_read : json.Json → Option (Option Data)
value_read j = option_map whole_of (of_json j)

abbrev pub one_item : Option Data → Option (List Data)
one_item o = option_map (λ d. d ∷ []) o

-- items and then more, where all are whole
abbrev pub and_items : Option (List Data) → Option (List Data) → Option (List Data)
and_items None more = None
and_items (Some ds) more = option_map (λ es. ds ++ es) more

abbrev pub items_read : json.Items → Option (Option (List Data))
items_read json.no_items = Some (Some [])
items_read (json.item j js) = option_and_then (λ o. option_map (and_items (one_item o)) (items_read js)) (value_read j)

-- all members, as they come
abbrev pub members_read : json.Members → Option (List Found)
members_read json.no_members = Some []
members_read (json.member k j ms) = option_and_then (λ o. option_map (λ fs. (k, o) ∷ fs) (members_read ms)) (value_read j)

abbrev pub list_data : List Data → Data
list_data ds = list (items_of ds)
