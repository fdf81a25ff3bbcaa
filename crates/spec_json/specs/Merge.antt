-- The first of an object's members, beside a key.
use Rattle.std.specs.Prelude.{◌≡◌, ℕ, List, [], ◌∷◌, Bool, true, false, Option, Some, None, if◌then◌else◌}
use Rattle.std.specs.Cmp.Lexicographic.{slice_cmp}
use Rattle.std.specs.Ordering.{nat_cmp, is_lt}
use Rattle.std.specs.Str.{bytes_eq}
use Rattle.spec_json.specs.Data.{Pair}

-- there is a first member, with a key below this one
abbrev pub begins_below : List ℕ → List Pair → Bool
begins_below k [] = false
begins_below k (p ∷ ps) = is_lt (slice_cmp nat_cmp p.0 k)

-- the first member is taken out where its key is below this one, and else nothing
abbrev pub TakesBelow : List ℕ → Option Pair → List Pair → List Pair → Type 0
TakesBelow k (Some p) old new = (begins_below k old ≡ true) × (old ≡ p ∷ new)
TakesBelow k None old new = (begins_below k old ≡ false) × (new ≡ old)

-- the members but the first, where it has this key
abbrev pub without_first : List ℕ → List Pair → List Pair
without_first k [] = []
without_first k (p ∷ ps) = if bytes_eq p.0 k then ps else p ∷ ps
