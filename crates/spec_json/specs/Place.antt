-- The place of a key among members in byte order of their keys.
use Rattle.std.specs.Prelude.{ℕ, zero, suc, ◌&&◌, List, [], ◌∷◌, Bool, true, false}
use Rattle.std.specs.Cmp.Lexicographic.{slice_cmp}
use Rattle.std.specs.Ordering.{nat_cmp, is_lt}
use Rattle.std.specs.Str.{bytes_eq}
use Rattle.spec_json.specs.declared.tree.Member.{Member}

-- the member at this place has this key, and those before it have keys below
abbrev pub is_key_at : ℕ → List ℕ → List Member → Bool
is_key_at i k [] = false
is_key_at zero k (m ∷ ms) = bytes_eq m.key k
is_key_at (suc i) k (m ∷ ms) = is_lt (slice_cmp nat_cmp m.key k) && is_key_at i k ms

-- the members before this place have keys below this one, and the member at it, if there is one, has a key above
abbrev pub is_gap_at : ℕ → List ℕ → List Member → Bool
is_gap_at zero k [] = true
is_gap_at (suc i) k [] = false
is_gap_at zero k (m ∷ ms) = is_lt (slice_cmp nat_cmp k m.key)
is_gap_at (suc i) k (m ∷ ms) = is_lt (slice_cmp nat_cmp m.key k) && is_gap_at i k ms
