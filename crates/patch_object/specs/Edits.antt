-- Members that are put in or taken out, one after the other.
use Rattle.std.specs.Prelude.{ℕ, List, [], ◌∷◌, ◌&&◌, Bool, true, false, drop, max, length}
use Rattle.std.specs.Str.{bytes_eq}
use Rattle.spec_json.specs.Data.{Data, Pair}
use Rattle.spec_json.specs.Patch.{placed_in}
use Rattle.spec_json.specs.TreeData.{data_of}
use Rattle.patch_object.specs.declared.place.Edit.{Edit}

-- the path to a member and its value, null where it is to be taken out
abbrev pub Change : Type 0
Change = List (List ℕ) × Data

abbrev pub change_of : Edit → Change
change_of e = (e.pointer, data_of e.value.now)

-- the same, where the path begins at its part i
abbrev pub change_from : ℕ → Edit → Change
change_from i e = (drop i e.pointer, data_of e.value.now)

abbrev pub pointer_of : Edit → List (List ℕ)
pointer_of e = e.pointer

-- the members with these changes made
abbrev pub placed_each : List Change → List Pair → List Pair
placed_each [] ms = ms
placed_each (e ∷ es) ms = placed_each es (placed_in e.0 e.1 ms)

-- the path goes on behind this part
abbrev pub goes_through : List ℕ → List (List ℕ) → Bool
goes_through k [] = false
goes_through k (p ∷ []) = false
goes_through k (p ∷ (q ∷ ps)) = bytes_eq p k

abbrev pub all_through : List ℕ → List Change → Bool
all_through k [] = true
all_through k (e ∷ es) = goes_through k e.0 && all_through k es

-- what is to be done in the member at the first part
abbrev pub behind_first : Change → Change
behind_first e = (drop 1 e.0, e.1)

-- these changes all go through the first part of this path
abbrev pub all_through_first : List (List ℕ) → List Change → Bool
all_through_first [] es = false
all_through_first (p ∷ ps) es = all_through p es

-- one change, or changes that all go through the same first part
abbrev pub is_group : List Change → Bool
is_group [] = false
is_group (e ∷ []) = true
is_group (e ∷ (f ∷ fs)) = all_through_first e.0 (e ∷ f ∷ fs)

-- how many parts the longest pointer has
abbrev pub longest : List Edit → ℕ
longest [] = 0
longest (e ∷ es) = max (length e.pointer) (longest es)
