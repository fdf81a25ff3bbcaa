-- The states of the objects of an account (RFC 8620 section 5.1).
use Rattle.std.specs.Prelude.{ℕ, ◌∷◌, ◌++◌, List, decimal}
use Rattle.spec_history.specs.History.{count_of_kind}
use Rattle.spec_history.specs.declared.entry.Change.{Change}
use Rattle.spec_history.specs.declared.entry.Kind.{Kind}
use Rattle.spec_history.specs.declared.state.State.{State}

abbrev pub hyphen : ℕ
hyphen = 45

-- the state of this number in a generation
abbrev pub state_in_generation : ℕ → ℕ → State
state_in_generation generation number = record { generation = generation; number = number }

-- the state of a kind after these changes
abbrev pub state_of : ℕ → Kind → List Change → State
state_of generation kind cs = state_in_generation generation (count_of_kind cs kind)

-- a state as clients see it: the generation and the number, joined by a hyphen
abbrev pub state_text : State → List ℕ
state_text s = decimal s.generation ++ hyphen ∷ decimal s.number
