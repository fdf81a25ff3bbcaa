-- How long the texts of values are.
use Rattle.std.specs.Prelude.{ℕ, ◌+◌, max, List, Option, option_map, length}
use Rattle.json_edge.specs.Lengths.{saturated, size_of_items}
use Rattle.spec_batch.specs.References.{size_of_values}
use Rattle.spec_batch.specs.declared.method_response.MethodResponse.{MethodResponse}
use Rattle.spec_json.specs.Data.{Data, Pair, list, list_of}
use Rattle.spec_json.specs.Json.{text_of}
use Rattle.spec_json.specs.Parts.{all_some}
use Rattle.result_refs.specs.Parted.{references_in, with_value}
use Rattle.result_refs.specs.declared.size.Size.{Size}
use Rattle.result_refs.specs.declared.size.Size.TheVariants.{Single, Items}

abbrev pub size_by_items : Data → Size
size_by_items (list ds) = Items (saturated (size_of_items (list_of ds)))
size_by_items d = Single (saturated (length (text_of d)))

-- the bytes of the text
abbrev pub of_a_text : Size → ℕ
of_a_text (Single n) = n
of_a_text (Items n) = saturated (1 + max 1 n)

-- the bytes in a list, with the comma or the bracket behind
abbrev pub in_a_list : Size → ℕ
in_a_list (Single n) = saturated (n + 1)
in_a_list (Items n) = n

-- the values of all references
abbrev pub values_in : List MethodResponse → List Pair → Option (List Pair)
values_in responses arguments = all_some (λ p. with_value responses p) (references_in arguments)

-- their size
abbrev pub size_in : List MethodResponse → List Pair → Option ℕ
size_in responses arguments = option_map (λ vs. saturated (size_of_values vs)) (values_in responses arguments)
