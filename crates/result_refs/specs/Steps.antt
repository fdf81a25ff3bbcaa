-- Steps from a value to one that stands in it.
use Rattle.std.specs.Prelude.{ℕ, List, [], Option, Some, None, codes, unwrap_or, if◌then◌else◌}
use Rattle.std.specs.Str.{bytes_eq}
use Rattle.spec_json.specs.Data.{Data, list, object, lookup, list_of, pairs_of}
use Rattle.spec_batch.specs.References.{item_at}
use Rattle.result_refs.specs.declared.path.Path.{Path}

-- the parts of a path
abbrev pub parts_along : Path → List (List ℕ)
parts_along path = unwrap_or path.pointer []

-- the items of an array, where the part is `*`
abbrev pub all_items : List ℕ → Data → Option (List Data)
all_items p (list ds) = if bytes_eq p (codes "*") then Some (list_of ds) else None
all_items p _ = None

-- the member or the item that a part names
abbrev pub named_by : List ℕ → Data → Option Data
named_by p (object ms) = lookup p (pairs_of ms)
named_by p (list ds) = item_at p (list_of ds)
named_by p _ = None
