-- Members in byte order of their keys, from a key on.
use Rattle.std.specs.Prelude.{ℕ, List, [], ◌∷◌, Bool, false, if◌then◌else◌}
use Rattle.std.specs.Cmp.Lexicographic.{slice_cmp}
use Rattle.std.specs.Ordering.{nat_cmp, is_lt}
use Rattle.std.specs.Str.{bytes_eq}
use Rattle.spec_json.specs.Data.{Pair}

-- the members from the first on whose key isn't below this one
abbrev pub from_key : List ℕ → List Pair → List Pair
from_key k [] = []
from_key k (p ∷ ps) = if is_lt (slice_cmp nat_cmp p.0 k) then from_key k ps else p ∷ ps

-- the first member has this key
abbrev pub begins_with : List ℕ → List Pair → Bool
begins_with k [] = false
begins_with k (p ∷ ps) = bytes_eq p.0 k
