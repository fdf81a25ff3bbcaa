-- Members of an object as they are found: a key and its value, none where a number of the value isn't whole.
use Rattle.std.specs.Prelude.{ℕ, List, [], ◌∷◌, Bool, true, Option, Some, None, option_map, option_and_then, if◌then◌else◌}
use Rattle.std.specs.Ordering.{nat_cmp, is_lt, match_ordering}
use Rattle.std.specs.Cmp.Lexicographic.{slice_cmp}
use Rattle.spec_json.specs.Data.{Data, Pair, object, members_of}

abbrev pub Found : Type 0
Found = List ℕ × Option Data

-- the one key stands before the other in byte order
abbrev pub key_below : Found → Found → Bool
key_below m n = is_lt (slice_cmp nat_cmp m.0 n.0)

-- members in byte order of their keys, with m at its key's place
abbrev pub put_found : Found → List Found → List Found
put_found m [] = m ∷ []
put_found m (n ∷ ns) = match_ordering (slice_cmp nat_cmp m.0 n.0) (m ∷ n ∷ ns) (m ∷ ns) (n ∷ put_found m ns)

-- the same with each of a list put in, from the first to the last
abbrev pub put_each : List Found → List Found → List Found
put_each ns [] = ns
put_each ns (m ∷ ms) = put_each (put_found m ns) ms

-- the pairs, where all values are whole
abbrev pub whole_pairs : List Found → Option (List Pair)
whole_pairs [] = Some []
whole_pairs (m ∷ ms) = option_and_then (λ d. option_map (λ ps. (m.0, d) ∷ ps) (whole_pairs ms)) m.1

-- the object that its members make, none where a number of it isn't whole
abbrev pub object_found : List Found → Option Data
object_found ms = option_map (λ ps. object (members_of ps)) (whole_pairs (put_each [] ms))

abbrev pub last_key : List Pair → Option (List ℕ)
last_key [] = None
last_key (p ∷ []) = Some p.0
last_key (p ∷ q ∷ ps) = last_key (q ∷ ps)

-- a key is above the last one, where there is one
abbrev pub is_next : Option (List ℕ) → List ℕ → Bool
is_next None k = true
is_next (Some l) k = is_lt (slice_cmp nat_cmp l k)

-- the members whose key is above that of the one before them that was kept: of members in order, the first of each key
abbrev pub first_of_each : Option (List ℕ) → List Found → List Found
first_of_each last [] = []
first_of_each last (m ∷ ms) = if is_next last m.0 then m ∷ first_of_each (Some m.0) ms else first_of_each last ms
