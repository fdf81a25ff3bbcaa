-- Lists of names in byte order, each once.
use Rattle.std.specs.Prelude.{ℕ, List, [], ◌∷◌, ◌&&◌, Bool, true, if◌then◌else◌}
use Rattle.std.specs.Cmp.Lexicographic.{slice_cmp}
use Rattle.std.specs.List.{list_any}
use Rattle.std.specs.Ordering.{nat_cmp, is_lt}
use Rattle.std.specs.Str.{bytes_eq}

-- the names with this one put in, where it isn't there yet
abbrev pub put_name : List ℕ → List (List ℕ) → List (List ℕ)
put_name n [] = n ∷ []
put_name n (m ∷ ms) = if is_lt (slice_cmp nat_cmp m n) then m ∷ put_name n ms else if bytes_eq m n then m ∷ ms else n ∷ m ∷ ms

-- these names in byte order, each once
abbrev pub in_byte_order : List (List ℕ) → List (List ℕ)
in_byte_order [] = []
in_byte_order (n ∷ ns) = put_name n (in_byte_order ns)

abbrev pub has_name : List (List ℕ) → List ℕ → Bool
has_name names n = list_any (λ m. bytes_eq m n) names

-- the first name, if there is one, is above n
abbrev pub is_below_first : List ℕ → List (List ℕ) → Bool
is_below_first n [] = true
is_below_first n (m ∷ ms) = is_lt (slice_cmp nat_cmp n m)

-- each name is above the one before it
abbrev pub names_rise : List (List ℕ) → Bool
names_rise [] = true
names_rise (n ∷ ns) = is_below_first n ns && names_rise ns
