-- The size of the values of references.
use Rattle.std.proofs.Common.{◌≡◌, ◌≤◌, ◌<◌, ℕ, List, true, false, Option, Some, None, IfSome, option_map, length, nat_lt, refl, sym, ap, ◌∙◌, arith}
use Rattle.std.proofs.lemmas.Bool.{lt-ltb}
use Rattle.std.specs.List.{list_any}
use Rattle.json_edge.proofs.Lengths.{list_length}
use Rattle.json_edge.specs.Lengths.{saturated}
use Rattle.spec_json.proofs.DataLemmas.{items_forth}
use Rattle.spec_json.specs.Data.{Data, Pair, null, truth, whole, text, list, list_of, object}
use Rattle.spec_json.specs.Json.{text_of}
use Rattle.spec_batch.specs.References.{too_large, has_both_forms, has_too_many, resolution, size_of_values, with_referred}
use Rattle.spec_batch.specs.declared.limits.TheConstants.{MAX_REFERRED_BYTES}
use Rattle.spec_batch.specs.declared.method_response.MethodResponse.{MethodResponse}
use Rattle.result_refs.proofs.PartedLemmas.{resolution_of_parts}
use Rattle.result_refs.specs.Reports.{Reports}
use Rattle.result_refs.specs.Sizes.{of_a_text, size_in, size_by_items, values_in}
use Rattle.result_refs.specs.declared.arguments.ReferenceError.TheVariants.{TooLarge}
use Rattle.result_refs.specs.declared.size.Size.{Size}

abbrev length_in : Data → ℕ
length_in d = saturated (length (text_of d))

text_size : (d : Data) → of_a_text (size_by_items d) ≡ length_in d
text_size null = refl
text_size (truth b) = refl
text_size (whole n) = refl
text_size (text s) = refl
text_size (list is) = omega (arith, list_length (list_of is), ap (λ ds. length (text_of (list ds))) (items_forth is))
text_size (object ms) = refl

-- a value of this size has a text of so many bytes
pub sized_by : (size : Size) (v : Option Data) → Some size ≡ option_map size_by_items v → option_map length_in v ≡ Some (of_a_text size)
sized_by size None h = cc
sized_by size (Some d) h = let same : size ≡ size_by_items d = cc in ap Some (sym (ap of_a_text same ∙ text_size d))

large_by : (size : ℕ) (rs : List MethodResponse) (arguments : List Pair) (o : Option (List Pair)) → option_map (λ vs. saturated (size_of_values vs)) o ≡ Some size → MAX_REFERRED_BYTES < size
    → (n : ℕ) × (with_referred arguments o ≡ too_large n) × (size ≡ saturated n)
large_by size rs arguments None h l = cc
large_by size rs arguments (Some vs) h l =
    let same : saturated (size_of_values vs) ≡ size = cc in
    let beyond : nat_lt MAX_REFERRED_BYTES (size_of_values vs) ≡ true = lt-ltb MAX_REFERRED_BYTES (size_of_values vs) (omega (arith, l, same)) in
    (size_of_values vs, rw beyond refl, sym same)

-- too large values are told with their size
pub reports_large : (size : ℕ) (rs : List MethodResponse) (arguments : List Pair) → has_too_many arguments ≡ false → list_any (λ p. has_both_forms arguments p) arguments ≡ false → size_in rs arguments ≡ Some size → MAX_REFERRED_BYTES < size
    → Reports (TooLarge size) (resolution rs arguments)
reports_large size rs arguments f h s l =
    let found = large_by size rs arguments (values_in rs arguments) s l in
    (found.0, resolution_of_parts rs arguments f h ∙ found.1, found.2)

small_by : (size : ℕ) (o : Option (List Pair)) → option_map (λ vs. saturated (size_of_values vs)) o ≡ Some size → size ≤ MAX_REFERRED_BYTES → IfSome o (λ vs. size_of_values vs ≤ MAX_REFERRED_BYTES)
small_by size None h l = tt
small_by size (Some vs) h l = let same : saturated (size_of_values vs) ≡ size = cc in omega (arith, l, same)

pub are_small : (size : ℕ) (rs : List MethodResponse) (arguments : List Pair) → size_in rs arguments ≡ Some size → size ≤ MAX_REFERRED_BYTES → IfSome (values_in rs arguments) (λ vs. size_of_values vs ≤ MAX_REFERRED_BYTES)
are_small size rs arguments h l = small_by size (values_in rs arguments) h l
