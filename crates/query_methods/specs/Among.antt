-- Results of queries that look at some events alone.
use Rattle.std.specs.Prelude.{ℕ, List, [], ◌∷◌, Bool, Option, flat_map, map, if◌then◌else◌}
use Rattle.spec_history.specs.History.{live_object}
use Rattle.spec_history.specs.declared.entry.Change.{Change}
use Rattle.spec_history.specs.declared.entry.Kind.TheVariants.{Event}
use Rattle.spec_json.specs.declared.tree.Tree.{Tree}
use Rattle.spec_queries.specs.Matching.{match_of}
use Rattle.spec_queries.specs.Results.{numbers_at, places}
use Rattle.spec_queries.specs.declared.comparator.Comparator.{Comparator}
use Rattle.spec_queries.specs.declared.item.Item.{Item}

-- those of these events that are live and of which the filter holds, each with its item
abbrev pub matches_among : (Tree → Option Item) → List Change → List ℕ → List (ℕ × Item)
matches_among see cs numbers = flat_map (λ id. match_of see id (live_object cs Event id)) numbers

-- their numbers in the order of the result
abbrev pub result_among : (Tree → Option Item) → List Comparator → List Change → List ℕ → List ℕ
result_among see order cs numbers =
    numbers_at (map (λ p. p.0) (matches_among see cs numbers)) (places order (map (λ p. p.1) (matches_among see cs numbers)))

-- the number, where the test holds
abbrev pub number_if : Bool → ℕ → List ℕ
number_if b number = if b then number ∷ [] else []
