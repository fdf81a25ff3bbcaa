-- Texts in texts, whatever their case.
use Rattle.std.specs.Prelude.{ℕ, List, [], ◌∷◌, Bool, true, false, ◌&&◌, ◌||◌, ◌==◌, chars, encode_utf8_all}
use Rattle.caseless.specs.Caseless.{default_case_fold}

-- the other text begins with the one
unfoldable pub begins : List ℕ → List ℕ → Bool
begins [] text = true
begins (c ∷ cs) [] = false
begins (c ∷ cs) (b ∷ bs) = (b == c) && begins cs bs

-- the one stands somewhere in the other
unfoldable pub stands_in : List ℕ → List ℕ → Bool
stands_in needle [] = begins needle []
stands_in needle (b ∷ bs) = begins needle (b ∷ bs) || stands_in needle bs

-- the bytes of a text whose case is folded (The Unicode Standard section 3.13, default case folding)
abbrev pub folded : List ℕ → List ℕ
folded text = encode_utf8_all (default_case_fold (chars text))

-- the text contains the needle, both with their case folded
abbrev pub contains : List ℕ → List ℕ → Bool
contains text needle = stands_in (folded needle) (folded text)
