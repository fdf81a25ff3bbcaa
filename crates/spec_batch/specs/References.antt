-- Result references: arguments that take their value from an earlier response (RFC 8620 section 3.7).
use Rattle.std.specs.Prelude.{ℕ, List, [], ◌∷◌, ◌==◌, Bool, not, Option, Some, None, option_map, option_and_then, is_some, filter, flat_map, drop, length, nat_lt, slice_get, sum_by, codes, if◌then◌else◌}
use Rattle.std.specs.List.{list_any}
use Rattle.std.specs.Str.{bytes_eq}
use Rattle.spec_json.specs.Data.{Data, list, object, Pair, lookup, items_of, list_of, pairs_of}
use Rattle.spec_json.specs.Edit.{put_all}
use Rattle.spec_json.specs.Json.{text_of}
use Rattle.spec_json.specs.Number.{number_in}
use Rattle.spec_json.specs.Parts.{all_some, behind_hash, text_at}
use Rattle.spec_json.specs.Pointer.{parts}
use Rattle.spec_json.specs.TreeData.{data_of}
use Rattle.spec_batch.specs.declared.limits.TheConstants.{MAX_REFERENCES, MAX_REFERRED_BYTES}
use Rattle.spec_batch.specs.declared.method_response.MethodResponse.{MethodResponse}

-- what the arguments of a call come to
pub data Resolution : Type 0 where
  -- more of them are references than a call may have
  too_many : Resolution
  -- an argument is given both as a value and as a reference
  both_forms : Resolution
  -- a reference has no value
  bad_reference : Resolution
  -- the values of the references have more bytes than a call may refer to, these
  too_large : ℕ → Resolution
  resolved : List Pair → Resolution

-- an argument that is a list is put in as its items
abbrev pub items_or_self : Data → List Data
items_or_self (list ds) = list_of ds
items_or_self d = d ∷ []

abbrev pub joined : List Data → Data
joined ds = list (items_of (flat_map items_or_self ds))

-- the item whose place, from 0, this part writes out
abbrev pub item_at : List ℕ → List Data → Option Data
item_at part ds = option_and_then (λ n. slice_get ds n) (number_in part)

-- The value that the parts of a path lead to. On an object a part names a member, on a list an item; `*` goes through all items.
abbrev pub value_by : List (List ℕ) → Data → Option Data
value_by [] d = Some d
value_by (p ∷ ps) (object ms) = option_and_then (λ e. value_by ps e) (lookup p (pairs_of ms))
value_by (p ∷ ps) (list ds) =
    if bytes_eq p (codes "*") then option_map joined (all_some (λ e. value_by ps e) (list_of ds))
    else option_and_then (λ e. value_by ps e) (item_at p (list_of ds))
value_by (p ∷ ps) _ = None

-- the parts of a path, which is empty or begins with `/` (RFC 6901 section 3)
abbrev pub path_parts : List ℕ → Option (List (List ℕ))
path_parts [] = Some []
path_parts (b ∷ bs) = if b == 47 then parts bs else None

-- the first response to a call of this id
abbrev pub response_with_id : List ℕ → List MethodResponse → Option MethodResponse
response_with_id id [] = None
response_with_id id (r ∷ rs) = if bytes_eq r.call_id id then Some r else response_with_id id rs

abbrev pub value_in_response : List ℕ → List ℕ → MethodResponse → Option Data
value_in_response name path r =
    if bytes_eq r.name name then option_and_then (λ ps. value_by ps (data_of r.arguments)) (path_parts path) else None

abbrev pub value_with : List MethodResponse → Option (List ℕ) → Option (List ℕ) → Option (List ℕ) → Option Data
value_with responses (Some result_of) (Some name) (Some path) = option_and_then (value_in_response name path) (response_with_id result_of responses)
value_with responses _ _ _ = None

-- the value of a reference, an object with the texts `resultOf`, `name` and `path`
abbrev pub value_of_reference : List MethodResponse → Data → Option Data
value_of_reference responses d =
    value_with responses (text_at (codes "resultOf") d) (text_at (codes "name") d) (text_at (codes "path") d)

-- a reference to the value of the argument whose name stands behind the `#`
abbrev pub is_reference : Pair → Bool
is_reference p = is_some (behind_hash p.0)

abbrev pub has_too_many : List Pair → Bool
has_too_many arguments = nat_lt MAX_REFERENCES (length (filter is_reference arguments))

-- the argument stands there without the `#` too
abbrev pub has_both_forms : List Pair → Pair → Bool
has_both_forms arguments p = is_some (option_and_then (λ key. lookup key arguments) (behind_hash p.0))

abbrev pub referred_member : List MethodResponse → Pair → Option Pair
referred_member responses p = option_map (λ d. (drop 1 p.0, d)) (value_of_reference responses p.1)

-- the bytes of the compact texts of these values
abbrev pub size_of_values : List Pair → ℕ
size_of_values ps = sum_by (λ p. length (text_of p.1)) ps

abbrev pub unless_too_large : List Pair → List Pair → ℕ → Resolution
unless_too_large arguments referred size =
    if nat_lt MAX_REFERRED_BYTES size then too_large size else resolved (put_all referred (filter (λ p. not (is_reference p)) arguments))

abbrev pub with_referred : List Pair → Option (List Pair) → Resolution
with_referred arguments None = bad_reference
with_referred arguments (Some referred) = unless_too_large arguments referred (size_of_values referred)

-- the arguments, with the value of each reference in its place, where these are neither too many nor too large (RFC 8620 sections 3.6.2 and 3.7)
abbrev pub resolution : List MethodResponse → List Pair → Resolution
resolution responses arguments =
    if has_too_many arguments then too_many
    else if list_any (has_both_forms arguments) arguments then both_forms
    else with_referred arguments (all_some (referred_member responses) (filter is_reference arguments))
