-- Changes of a query's result, and how a client applies them (RFC 8620 section 5.6).
use Rattle.std.specs.Prelude.{ℕ, ◌+◌, List, [], ◌∷◌, Bool, not, if◌then◌else◌, length, filter, min}
use Rattle.std.specs.List.{insert}
use Rattle.spec_history.specs.Pages.{is_in}
use Rattle.spec_queries.specs.declared.delta.Place.{Place}
use Rattle.spec_queries.specs.declared.delta.Delta.{Delta}

-- the ids that pass, each with its index, where n stand before them
abbrev pub indexed : (ℕ → Bool) → ℕ → List ℕ → List Place
indexed test n [] = []
indexed test n (id ∷ ids) = if test id then record { id = id; index = n } ∷ indexed test (n + 1) ids else indexed test (n + 1) ids

-- the touched ids of the old result, and those of the new one with their indexes
abbrev pub delta_of : List ℕ → List ℕ → List ℕ → Delta
delta_of old new touched = record { removed = filter (is_in touched) old; added = indexed (is_in touched) 0 new }

-- each put in at its index in turn; an index past the end means the end
abbrev pub with_places : List ℕ → List Place → List ℕ
with_places ids [] = ids
with_places ids (p ∷ ps) = with_places (insert ids (min p.index (length ids)) p.id) ps

-- the removed ids taken out, and then the added ones put in
abbrev pub spliced : List ℕ → Delta → List ℕ
spliced old delta = with_places (filter (λ id. not (is_in delta.removed id)) old) delta.added
