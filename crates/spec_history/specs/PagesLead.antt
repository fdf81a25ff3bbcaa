-- What a client makes of pages (RFC 8620 section 5.2).
use Rattle.std.specs.Prelude.{◌≡◌, ℕ, List, [], ◌∷◌, ◌&&◌, ◌||◌, not, Bool, false}
use Rattle.spec_history.specs.Pages.{Mention, is_in, created, updated, destroyed}

-- no id stands in two lists of the page from state k to state j
pub record AreApart (ms : List Mention) (k j : ℕ) : Type 0 where
  pub created_updated : (id : ℕ) → (is_in (created ms k j) id && is_in (updated ms k j) id) ≡ false
  pub created_destroyed : (id : ℕ) → (is_in (created ms k j) id && is_in (destroyed ms k j) id) ≡ false
  pub updated_destroyed : (id : ℕ) → (is_in (updated ms k j) id && is_in (destroyed ms k j) id) ≡ false

-- whether a client holds an id after the page from state k to state j: without the destroyed ids and with the created ones
abbrev pub held_after : List Mention → ℕ → ℕ → (ℕ → Bool) → ℕ → Bool
held_after ms k j held id = (held id && not (is_in (destroyed ms k j) id)) || is_in (created ms k j) id

-- the same after pages one after the other, the first from state k, and each to the next of these states
abbrev pub held_after_all : List Mention → ℕ → List ℕ → (ℕ → Bool) → ℕ → Bool
held_after_all ms k [] held id = held id
held_after_all ms k (j ∷ js) held id = held_after_all ms j js (λ i. held_after ms k j held i) id

-- the state that the last of the pages names
abbrev pub last_state : ℕ → List ℕ → ℕ
last_state k [] = k
last_state k (j ∷ js) = last_state j js
