-- How ids stand between two states.
use Rattle.std.specs.Prelude.{◌≡◌, ℕ, List, [], ◌∷◌, ◌==◌, ◌&&◌, ◌||◌, not, Bool, true, false, Option, Some, None, drop, if◌then◌else◌, nat_eq}
use Rattle.std.specs.HashMap.{get, HashMap}
use Rattle.std.specs.List.{list_any}
use Rattle.std.specs.declared.hash.BuildHasherDefault.{BuildHasherDefault}
use Rattle.std.specs.declared.hash.FoldHasher.{FoldHasher}
use Rattle.spec_history.specs.Pages.{Mention, is_live, is_touched}
use Rattle.object_log.specs.declared.standing.Growth.{Growth}
use Rattle.object_log.specs.declared.standing.Standing.{Standing}

abbrev pub standing : List Mention → ℕ → ℕ → ℕ → Standing
standing ms k j id = record { was_live = is_live ms k id; is_live = is_live ms j id; is_touched = is_touched ms k j id }

abbrev pub is_listed : Standing → Bool
is_listed s = s.is_touched && (s.was_live || s.is_live)

abbrev pub is_new : Standing → Bool
is_new s = s.is_live && not s.was_live

abbrev pub is_changed : Standing → Bool
is_changed s = (s.was_live && s.is_live) && s.is_touched

abbrev pub is_gone : Standing → Bool
is_gone s = s.was_live && not s.is_live

-- the standing of an id where a page begins
abbrev pub begun : Bool → Standing
begun live = record { was_live = live; is_live = live; is_touched = false }

-- the standing after one more mention of the id
abbrev pub after : Mention → Standing → Standing
after m s = record { was_live = s.was_live; is_live = m.puts; is_touched = true }

-- whether a page listed the id of one more mention, and does now
abbrev pub growth_of : Mention → Option Standing → Growth
growth_of m None = record { was_listed = false; is_listed = false }
growth_of m (Some s) = record { was_listed = is_listed s; is_listed = is_listed (after m s) }

-- an id is mentioned after state k
abbrev pub is_named_after : List Mention → ℕ → ℕ → Bool
is_named_after ms k id = list_any (λ m. m.id == id) (drop k ms)

abbrev pub only_if : Bool → Standing → Option Standing
only_if named s = if named then Some s else None

abbrev pub Standings : Type 0
Standings = HashMap ℕ Standing (BuildHasherDefault FoldHasher)

-- a map has the standing of each id that is mentioned after state k, and of no other
abbrev pub AreStandings : List Mention → ℕ → ℕ → Standings → Type 0
AreStandings ms k j standings = (id : ℕ) → get nat_eq standings id ≡ only_if (is_named_after ms k id) (standing ms k j id)

-- the id, where it has a standing and that passes
abbrev pub listed_by : (Standing → Bool) → ℕ → Option Standing → List ℕ
listed_by test id None = []
listed_by test id (Some s) = if test s then id ∷ [] else []

abbrev pub one_if : Bool → ℕ
one_if b = if b then 1 else 0
