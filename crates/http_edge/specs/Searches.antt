-- A search for the end of a head that stops where the bytes end, and goes on when more have come.
use Rattle.std.specs.Prelude.{◌≡◌, ℕ, ◌+◌, ◌≤◌, ◌==◌, List, [], ◌∷◌, ◌++◌, Bool, false, Option, Some, None, option_map, if◌then◌else◌, length}
use Rattle.spec_http.specs.Heads.{head_length, later}
use Rattle.http_edge.specs.declared.search.SearchState.{SearchState}
use Rattle.http_edge.specs.declared.search.SearchState.TheVariants.{Within, AfterFeed, AfterReturn}
use Rattle.http_edge.specs.declared.search.Search.{Search}
use Rattle.http_edge.specs.declared.search.Search.TheVariants as search_is

-- the byte is the last of a head
abbrev pub is_last : SearchState → ℕ → Bool
is_last Within b = false
is_last AfterFeed b = b == 10
is_last AfterReturn b = b == 10

abbrev pub next_state : SearchState → ℕ → SearchState
next_state AfterFeed b = if b == 10 then AfterFeed else (if b == 13 then AfterReturn else Within)
next_state _ b = if b == 10 then AfterFeed else Within

-- how many bytes more the head has, from a state on
unfoldable pub search_from : SearchState → List ℕ → Option ℕ
search_from s [] = None
search_from s (b ∷ bytes) = if is_last s b then Some 1 else later (search_from (next_state s b) bytes)

-- whatever follows p, its head ends where a search from this state finds it
abbrev pub IsSearched : List ℕ → SearchState → Type 0
IsSearched p s = (more : List ℕ) → head_length (p ++ more) ≡ option_map (λ n. length p + n) (search_from s more)

abbrev pub FindsEnd : List ℕ → Search → Type 0
FindsEnd bytes (search_is.Ended n) = (n ≤ length bytes) × (head_length bytes ≡ Some n)
FindsEnd bytes (search_is.Open s) = IsSearched bytes s
