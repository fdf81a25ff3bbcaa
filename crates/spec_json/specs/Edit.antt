-- Objects with a member put in or taken out.
use Rattle.std.specs.Prelude.{◌≡◌, ℕ, List, [], ◌∷◌, false, if◌then◌else◌}
use Rattle.std.specs.Cmp.Lexicographic.{slice_cmp}
use Rattle.std.specs.Ordering.{nat_cmp, is_lt}
use Rattle.std.specs.Str.{bytes_eq}
use Rattle.spec_json.specs.Data.{Data, Pair, lookup}

-- the members with this one, in the place of one of the same key
abbrev pub with_pair : List ℕ → Data → List Pair → List Pair
with_pair k v [] = (k, v) ∷ []
with_pair k v (p ∷ ps) = if is_lt (slice_cmp nat_cmp p.0 k) then p ∷ with_pair k v ps else if bytes_eq p.0 k then (k, v) ∷ ps else (k, v) ∷ p ∷ ps

-- the members without that of a key
abbrev pub without : List ℕ → List Pair → List Pair
without k [] = []
without k (p ∷ ps) = if bytes_eq p.0 k then ps else p ∷ without k ps

-- the members with these put in, one after the other
abbrev pub put_all : List Pair → List Pair → List Pair
put_all [] members = members
put_all (p ∷ ps) members = put_all ps (with_pair p.0 p.1 members)

-- the two have the same values at all other keys
abbrev pub ChangesOnlyAt : List ℕ → List Pair → List Pair → Type 0
ChangesOnlyAt key old new = (k : List ℕ) → bytes_eq key k ≡ false → lookup k new ≡ lookup k old
