-- Values of a kind of JSON.
use Rattle.std.specs.Prelude.{ℕ, ℤ, List, [], ◌∷◌, ◌==◌, Bool, true, false, Option, Some, None, option_map, option_and_then, unwrap_or, if◌then◌else◌}
use Rattle.spec_json.specs.Data.{Data, null, truth, whole, text, list, object, Pair, pairs_of, list_of, field}

abbrev pub is_null : Data → Bool
is_null null = true
is_null _ = false

abbrev pub as_text : Data → Option (List ℕ)
as_text (text s) = Some s
as_text _ = None

abbrev pub as_truth : Data → Option Bool
as_truth (truth b) = Some b
as_truth _ = None

abbrev pub as_whole : Data → Option ℤ
as_whole (whole n) = Some n
as_whole _ = None

abbrev pub as_list : Data → Option (List Data)
as_list (list ds) = Some (list_of ds)
as_list _ = None

abbrev pub as_object : Data → Option (List Pair)
as_object (object ms) = Some (pairs_of ms)
as_object _ = None

-- the members of an object, and none of anything else
abbrev pub members_in : Data → List Pair
members_in d = unwrap_or (as_object d) []

-- the truth at a key
abbrev pub truth_at : List ℕ → Data → Option Bool
truth_at key d = option_and_then as_truth (field key d)

-- the number at a key
abbrev pub number_at : List ℕ → Data → Option ℤ
number_at key d = option_and_then as_whole (field key d)

-- the text at a key
abbrev pub text_at : List ℕ → Data → Option (List ℕ)
text_at key d = option_and_then as_text (field key d)

-- the items of a list at a key
abbrev pub list_at : List ℕ → Data → Option (List Data)
list_at key d = option_and_then as_list (field key d)

-- the members of an object at a key
abbrev pub object_at : List ℕ → Data → Option (List Pair)
object_at key d = option_and_then as_object (field key d)

-- f of each, where each has one
abbrev pub all_some : {X Y : Type 0} → (X → Option Y) → List X → Option (List Y)
all_some f [] = Some []
all_some f (x ∷ xs) = option_and_then (λ y. option_map (λ ys. y ∷ ys) (all_some f xs)) (f x)

abbrev pub as_texts : Data → Option (List (List ℕ))
as_texts d = option_and_then (all_some as_text) (as_list d)

-- what stands behind a `#`, as in a result reference or a creation id (RFC 8620 sections 3.7 and 5.3)
abbrev pub behind_hash : List ℕ → Option (List ℕ)
behind_hash [] = None
behind_hash (b ∷ bs) = if b == 35 then Some bs else None

abbrev pub some_of : {X : Type 0} → Option X → List X
some_of None = []
some_of (Some x) = x ∷ []
