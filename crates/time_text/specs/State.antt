-- States as clients see them (RFC 8620 section 5.1).
use Rattle.std.specs.Prelude.{ℕ, ◌+◌, ◌==◌, List, Option, Some, None, drop, option_and_then, option_map, position, take, if◌then◌else◌, nat_le}
use Rattle.spec_core.specs.declared.numbers.TheConstants.{MAX_UNSIGNED_INT}
use Rattle.spec_history.specs.States.{hyphen, state_in_generation}
use Rattle.spec_history.specs.declared.state.State.{State}
use Rattle.spec_json.specs.Number.{number_in}

abbrev pub up_to_unsigned : ℕ → Option ℕ
up_to_unsigned n = if nat_le n MAX_UNSIGNED_INT then Some n else None

-- the number below 2^53 that a text writes out
abbrev pub unsigned_in : List ℕ → Option ℕ
unsigned_in s = option_and_then up_to_unsigned (number_in s)

abbrev pub state_with : Option ℕ → Option ℕ → Option State
state_with generation number = option_and_then (λ g. option_map (state_in_generation g) number) generation

-- the state that a text names: two numbers below 2^53, the generation first, joined by a hyphen
abbrev pub state_in : List ℕ → Option State
state_in s = option_and_then (λ place. state_with (unsigned_in (take place s)) (unsigned_in (drop (place + 1) s))) (position (λ b. b == hyphen) s)

abbrev pub number_within : ℕ → State → Option ℕ
number_within generation s = if s.generation == generation then Some s.number else None

-- the number of the state that a text names in this generation; a state of another one names none
abbrev pub number_named : ℕ → List ℕ → Option ℕ
number_named generation s = option_and_then (number_within generation) (state_in s)
