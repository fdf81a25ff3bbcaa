-- What a patch makes of a tree, and which of its keys fails (RFC 8620 section 5.3).
use Rattle.std.specs.Prelude.{ℕ, List, [], ◌∷◌, ◌++◌, ◌-◌, ◌&&◌, ◌||◌, not, Bool, true, false, Option, Some, None, Result, Ok, Err, if◌then◌else◌, length, take}
use Rattle.std.specs.List.{list_any}
use Rattle.std.specs.Option.{option_map_or}
use Rattle.std.specs.Str.{bytes_eq}
use Rattle.spec_json.specs.Data.{Data, null, object, Pair, members_of, pairs_of, lookup}
use Rattle.spec_json.specs.Edit.{with_pair, without}
use Rattle.spec_json.specs.Pointer.{parts, value_at}

-- these parts are the first of those
abbrev pub is_prefix : List (List ℕ) → List (List ℕ) → Bool
is_prefix [] qs = true
is_prefix (p ∷ ps) [] = false
is_prefix (p ∷ ps) (q ∷ qs) = bytes_eq p q && is_prefix ps qs

abbrev pub is_object : Data → Bool
is_object (object ms) = true
is_object _ = false

-- the value in which the last of these parts stands is an object, and is there
abbrev pub has_parent : List (List ℕ) → Data → Bool
has_parent ps d = option_map_or is_object (value_at (take (length ps - 1) ps) d) false

-- Whether a key of these parts fails, where the keys before it have the parts in `earlier`: it isn't a pointer, a key before it
-- is its prefix, or it has no parent.
abbrev pub fails : Data → List (List (List ℕ)) → Option (List (List ℕ)) → Bool
fails d earlier None = true
fails d earlier (Some ps) = list_any (λ e. is_prefix e ps) earlier || not (has_parent ps d)

abbrev pub noted : List (List (List ℕ)) → Option (List (List ℕ)) → List (List (List ℕ))
noted earlier None = earlier
noted earlier (Some ps) = earlier ++ ps ∷ []

-- the first key that fails, none where no key does
abbrev pub first_failing : Data → List (List (List ℕ)) → List Pair → Option (List ℕ)
first_failing d earlier [] = None
first_failing d earlier (p ∷ ps) = if fails d earlier (parts p.0) then Some p.0 else first_failing d (noted earlier (parts p.0)) ps

-- the members with this value at a key, without that key where the value is null
abbrev pub put_or_removed : List ℕ → Data → List Pair → List Pair
put_or_removed k null ms = without k ms
put_or_removed k v ms = with_pair k v ms

abbrev pub on_members : (List Pair → List Pair) → Data → Data
on_members f (object ms) = object (members_of (f (pairs_of ms)))
on_members f d = d

abbrev pub on_found : (Data → List Pair) → Option Data → List Pair → List Pair
on_found f None ms = ms
on_found f (Some d) ms = f d

-- the members with the one at the end of a path put in or removed; a path that leads nowhere changes nothing
abbrev pub placed_in : List (List ℕ) → Data → List Pair → List Pair
placed_in [] v ms = ms
placed_in (p ∷ []) v ms = put_or_removed p v ms
placed_in (p ∷ (q ∷ ps)) v ms = on_found (λ d. with_pair p (on_members (λ ns. placed_in (q ∷ ps) v ns) d) ms) (lookup p ms) ms

abbrev pub placed : Option (List (List ℕ)) → Data → Data → Data
placed None v d = d
placed (Some ps) v d = on_members (λ ms. placed_in ps v ms) d

abbrev pub placed_all : Data → List Pair → Data
placed_all d [] = d
placed_all d (p ∷ ps) = placed_all (placed (parts p.0) p.1 d) ps

abbrev pub unless_failing : Option (List ℕ) → Data → Result Data (List ℕ)
unless_failing None d = Ok d
unless_failing (Some key) d = Err key

-- The tree with each member that a patch names put in or removed, or the first key that fails, in byte order. The tests are made
-- on the tree as it was.
abbrev pub patched : Data → List Pair → Result Data (List ℕ)
patched d ps = unless_failing (first_failing d [] ps) (placed_all d ps)
