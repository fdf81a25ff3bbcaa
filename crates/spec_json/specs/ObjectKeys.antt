-- The keys of an object are distinct and in byte order.
use Rattle.std.specs.Prelude.{ℕ, List, [], ◌∷◌, Bool, true, ◌&&◌, IsTrue}
use Rattle.std.specs.Ordering.{nat_cmp, is_lt}
use Rattle.std.specs.Cmp.Lexicographic.{slice_cmp}
use Rattle.spec_json.specs.Data.{Pair}

-- the first key, if there is one, is above k
abbrev pub is_above : List ℕ → List Pair → Bool
is_above k [] = true
is_above k (p ∷ ps) = is_lt (slice_cmp nat_cmp k p.0)

abbrev pub keys_rise : List Pair → Bool
keys_rise [] = true
keys_rise (p ∷ ps) = is_above p.0 ps && keys_rise ps

abbrev pub HasOrderedKeys : List Pair → Type 0
HasOrderedKeys ps = IsTrue (keys_rise ps)
