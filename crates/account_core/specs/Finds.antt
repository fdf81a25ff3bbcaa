-- What a get finds.
use Rattle.std.specs.Prelude.{◌≡◌, ℕ, List, true, false, not, Option, Some, None, is_some, filter, flat_map, map}
use Rattle.cal_model.specs.Gets.{are_too_large, object_or_occurrence}
use Rattle.spec_history.specs.declared.entry.Change.{Change}
use Rattle.spec_history.specs.declared.entry.Kind.{Kind}
use Rattle.spec_json.specs.Data.{Data}
use Rattle.spec_json.specs.Parts.{some_of}
use Rattle.spec_json.specs.TreeData.{data_of}
use Rattle.spec_json.specs.declared.tree.Tree.{Tree}
use Rattle.account_core.specs.declared.found.Found.{Found}

-- the objects of these ids, and those ids that name none
abbrev pub found_in : List Change → Kind → List (List ℕ) → List Tree
found_in cs kind ids = flat_map (λ id. some_of (object_or_occurrence cs kind id)) ids

abbrev pub missing_in : List Change → Kind → List (List ℕ) → List (List ℕ)
missing_in cs kind ids = filter (λ id. not (is_some (object_or_occurrence cs kind id))) ids

-- these objects, and the ids that name none, unless the objects are too large
abbrev pub Finds : Kind → List Data → List (List ℕ) → Option Found → Type 0
Finds kind objects missing None = are_too_large kind objects ≡ true
Finds kind objects missing (Some found) = (are_too_large kind objects ≡ false) × (map data_of found.list.items ≡ objects) × (found.missing.items ≡ missing)
