-- Pointers: the parts of a patch's key, and the value that they lead to (RFC 6901 sections 3 and 4, without the `/` in front).
use Rattle.std.specs.Prelude.{ℕ, List, [], ◌∷◌, ◌++◌, ◌==◌, Option, Some, None, if◌then◌else◌, option_map, option_and_then}
use Rattle.std.specs.Char.{encode_utf8}
use Rattle.std.specs.Str.{chars}
use Rattle.spec_json.specs.Data.{Data, field}

-- The parts that these characters spell, where `part` is what the first of them has so far. A `/` ends a part, `~0` stands for `~`
-- and `~1` for `/`. There are none where a `~` is followed by anything else.
abbrev mutual
  pub parts_from : List ℕ → List ℕ → Option (List (List ℕ))
  parts_from part [] = Some (part ∷ [])
  parts_from part (c ∷ cs) = if c == 47 then option_map (λ ps. part ∷ ps) (parts_from [] cs) else if c == 126 then after_tilde part cs else parts_from (part ++ encode_utf8 c) cs

  pub after_tilde : List ℕ → List ℕ → Option (List (List ℕ))
  after_tilde part [] = None
  after_tilde part (c ∷ cs) = if c == 48 then parts_from (part ++ 126 ∷ []) cs else if c == 49 then parts_from (part ++ 47 ∷ []) cs else None

-- the parts of a key; an empty key is one empty part
abbrev pub parts : List ℕ → Option (List (List ℕ))
parts key = parts_from [] (chars key)

-- the value that these parts lead to, each the key of a member
abbrev pub value_at : List (List ℕ) → Data → Option Data
value_at [] d = Some d
value_at (p ∷ ps) d = option_and_then (λ e. value_at ps e) (field p d)
