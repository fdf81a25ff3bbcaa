-- How long compact texts and their parts are.
use Rattle.std.specs.Prelude.{ℕ, ◌+◌, ◌-◌, ◌^◌, min, List, [], ◌∷◌, length}
use Rattle.json.specs.Print.{quoted}
use Rattle.spec_json.specs.Data.{Data, Pair}
use Rattle.spec_json.specs.Json.{text_of}

-- a length as a u64 holds it: the last value stands for all that are greater
abbrev pub saturated : ℕ → ℕ
saturated n = min n (2 ^ 64 - 1)

-- items, each with the comma or the bracket behind it
abbrev pub size_of_items : List Data → ℕ
size_of_items [] = 0
size_of_items (d ∷ ds) = length (text_of d) + 1 + size_of_items ds

-- members, each with its key, a colon, and the comma or the bracket behind it
abbrev pub size_of_members : List Pair → ℕ
size_of_members [] = 0
size_of_members (p ∷ ps) = length (quoted p.0) + length (text_of p.1) + 2 + size_of_members ps
