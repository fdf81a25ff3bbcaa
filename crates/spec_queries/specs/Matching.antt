-- The results of one query at the states of a history (RFC 8620 sections 5.5 and 5.6).
use Rattle.std.specs.Prelude.{ℕ, List, [], ◌∷◌, Option, Some, None, map, filter, flat_map, take, drop}
use Rattle.spec_history.specs.declared.entry.Change.{Change}
use Rattle.spec_history.specs.declared.entry.Kind.TheVariants.{Event}
use Rattle.spec_json.specs.declared.tree.Tree.{Tree}
use Rattle.spec_history.specs.History.{is_kind, live_object, ids_at}
use Rattle.spec_queries.specs.declared.item.Item.{Item}
use Rattle.spec_queries.specs.declared.comparator.Comparator.{Comparator}
use Rattle.spec_queries.specs.Results.{numbers_at, places}

abbrev pub with_number : ℕ → Option Item → List (ℕ × Item)
with_number id None = []
with_number id (Some item) = (id, item) ∷ []

abbrev pub match_of : (Tree → Option Item) → ℕ → Option Tree → List (ℕ × Item)
match_of see id None = []
match_of see id (Some tree) = with_number id (see tree)

-- The live events of which the filter holds, each with what the comparators see of it, in order of creation. Filter and time zone are in
-- `see`, which gives the item of an event's object, and none where the filter doesn't hold.
abbrev pub matches : (Tree → Option Item) → List Change → List (ℕ × Item)
matches see cs = flat_map (λ id. match_of see id (live_object cs Event id)) (ids_at cs Event)

-- the changes of events, so that a state of the query counts the first of them
abbrev pub of_events : List Change → List Change
of_events cs = filter (λ c. is_kind Event c.kind) cs

-- the numbers of the events that changes name
abbrev pub touched_by : List Change → List ℕ
touched_by cs = map (λ c. c.id) (of_events cs)

-- the numbers of the events in the result at the end of a history
abbrev pub result_of : (Tree → Option Item) → List Comparator → List Change → List ℕ
result_of see order cs = numbers_at (map (λ p. p.0) (matches see cs)) (places order (map (λ p. p.1) (matches see cs)))

-- the same at state k, and the events that were touched since
abbrev pub result_at : (Tree → Option Item) → List Comparator → List Change → ℕ → List ℕ
result_at see order cs k = result_of see order (take k (of_events cs))

abbrev pub touched_since : List Change → ℕ → List ℕ
touched_since cs k = touched_by (drop k (of_events cs))
