-- Arguments, taken apart.
use Rattle.std.specs.Prelude.{List, not, Option, option_map, filter, map, drop}
use Rattle.spec_json.specs.Data.{Pair}
use Rattle.spec_batch.specs.References.{is_reference, value_of_reference}
use Rattle.spec_batch.specs.declared.method_response.MethodResponse.{MethodResponse}

abbrev pub plain_in : List Pair → List Pair
plain_in arguments = filter (λ p. not (is_reference p)) arguments

-- the references, each with the name behind the `#`
abbrev pub references_in : List Pair → List Pair
references_in arguments = map (λ p. (drop 1 p.0, p.1)) (filter is_reference arguments)

-- the value of a reference, at its name
abbrev pub with_value : List MethodResponse → Pair → Option Pair
with_value responses p = option_map (λ d. (p.0, d)) (value_of_reference responses p.1)
