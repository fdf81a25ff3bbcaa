-- The lines of a text.
use Rattle.std.specs.Prelude.{◌≡◌, ◌≢◌, ◌<◌, ℕ, ◌+◌, ◌==◌, List, [], ◌∷◌, ◌++◌, All, drop, flat_map, if◌then◌else◌, length, take}

-- the lines, where this byte comes before them
abbrev pub before_lines : ℕ → List (List ℕ) → List (List ℕ)
before_lines b [] = (b ∷ []) ∷ []
before_lines b (l ∷ ls) = (b ∷ l) ∷ ls

-- the pieces between line feeds, a last empty piece left out
abbrev pub lines_of : List ℕ → List (List ℕ)
lines_of [] = []
lines_of (b ∷ bytes) = if b == 10 then [] ∷ lines_of bytes else before_lines b (lines_of bytes)

abbrev pub HasNoFeed : List ℕ → Type 0
HasNoFeed bytes = All (λ b. b ≢ 10) bytes

-- lines, with a line feed behind each
abbrev pub with_feeds : List (List ℕ) → List ℕ
with_feeds ls = flat_map (λ l. l ++ 10 ∷ []) ls

-- the first line feed stands at this place
pub record IsFirstFeed (bytes : List ℕ) (at : ℕ) : Type 0 where
  pub within : at < length bytes
  pub parts : drop at bytes ≡ 10 ∷ drop (at + 1) bytes
  pub before : HasNoFeed (take at bytes)

-- the bytes begin with more than so many among which there is no line feed
pub record IsTooLong (most : ℕ) (bytes : List ℕ) : Type 0 where
  pub start : List ℕ
  pub rest : List ℕ
  pub parts : bytes ≡ start ++ rest
  pub unbroken : HasNoFeed start
  pub long : most < length start
