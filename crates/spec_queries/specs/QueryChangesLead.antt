-- What a client makes of changes of a query's result (RFC 8620 section 5.6).
use Rattle.std.specs.Prelude.{◌≡◌, ℕ, List, not, filter}
use Rattle.spec_history.specs.Pages.{is_in}
use Rattle.spec_queries.specs.QueryChanges.{delta_of, spliced}

-- the ids that no change touched
abbrev pub untouched : List ℕ → List ℕ → List ℕ
untouched touched ids = filter (λ id. not (is_in touched id)) ids

-- the ids that no change touched are the same of both results, in the same order
abbrev pub StandAlike : List ℕ → List ℕ → List ℕ → Type 0
StandAlike old new touched = untouched touched old ≡ untouched touched new

-- who holds the old result, and applies what changed, holds the new one
abbrev pub Lead : List ℕ → List ℕ → List ℕ → Type 0
Lead old new touched = spliced old (delta_of old new touched) ≡ new
