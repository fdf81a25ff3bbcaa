-- An object's members, parted at the place of a key.
use Rattle.std.specs.Prelude.{◌≡◌, ℕ, List, [], ◌∷◌, ◌++◌, ◌&&◌, Bool, true, false, Option, Some, None, if◌then◌else◌}
use Rattle.std.specs.Cmp.Lexicographic.{slice_cmp}
use Rattle.std.specs.Ordering.{nat_cmp, is_lt}
use Rattle.std.specs.Str.{bytes_eq}
use Rattle.spec_json.specs.Data.{Data, Pair}
use Rattle.spec_json.specs.Merge.{begins_below}

-- all keys are below this one
abbrev pub all_below : List ℕ → List Pair → Bool
all_below k [] = true
all_below k (p ∷ ps) = is_lt (slice_cmp nat_cmp p.0 k) && all_below k ps

-- the members before the place have keys below this one, and the first from it on, if there is one, doesn't
abbrev pub IsParted : List ℕ → List Pair → List Pair → Type 0
IsParted k before behind = (all_below k before ≡ true) × (begins_below k behind ≡ false)

-- the last member is taken out, or nothing where all keys are below this one
abbrev pub TakesFrom : List ℕ → Option Pair → List Pair → List Pair → Type 0
TakesFrom k (Some p) old new = old ≡ new ++ p ∷ []
TakesFrom k None old new = (all_below k old ≡ true) × (new ≡ old)

-- the value of the first member, where it has this key
abbrev pub first_at : List ℕ → List Pair → Option Data
first_at k [] = None
first_at k (p ∷ ps) = if bytes_eq p.0 k then Some p.1 else None
