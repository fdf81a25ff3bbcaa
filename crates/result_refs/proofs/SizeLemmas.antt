-- The size of values that are joined in one list.
use Rattle.std.proofs.Common.{◌≡◌, ℕ, ◌+◌, List, [], ◌∷◌, ◌++◌, Bool, true, false, if◌then◌else◌, codes, Option, Some, None, option_map, option_and_then, flat_map, refl, sym, ap, ◌∙◌, arith}
use Rattle.std.proofs.lemmas.List.Concat.{flat_map-cons}
use Rattle.std.specs.Str.{bytes_eq}
use Rattle.json_edge.specs.Lengths.{saturated, size_of_items}
use Rattle.spec_json.specs.Data.{Data, null, truth, whole, text, list, list_of, object, items_back}
use Rattle.spec_json.specs.Parts.{all_some}
use Rattle.spec_batch.specs.References.{item_at, items_or_self, joined, value_by}
use Rattle.result_refs.specs.Steps.{all_items}
use Rattle.result_refs.specs.Sizes.{in_a_list, size_by_items}
use Rattle.result_refs.specs.declared.size.Size.{Size}
use Rattle.result_refs.specs.declared.size.Size.TheVariants.{Items}

size_append : (ds es : List Data) → size_of_items (ds ++ es) ≡ size_of_items ds + size_of_items es
size_append [] es = omega arith
size_append (d ∷ ds) es = omega (arith, size_append ds es)

in_list : (d : Data) → saturated (in_a_list (size_by_items d)) ≡ saturated (size_of_items (items_or_self d))
in_list null = omega arith
in_list (truth b) = omega arith
in_list (whole n) = omega arith
in_list (text s) = omega arith
in_list (list is) = omega arith
in_list (object ms) = omega arith

abbrev sum_of : List Data → ℕ
sum_of ds = saturated (size_of_items (flat_map items_or_self ds))

abbrev sum_from : ℕ → List Data → ℕ
sum_from bytes ds = saturated (bytes + size_of_items (flat_map items_or_self ds))

one_more : (bytes : ℕ) (v : Data) (es : List Data) → sum_from bytes (v ∷ es) ≡ sum_from (saturated (bytes + in_a_list (size_by_items v))) es
one_more bytes v es = omega (arith, ap size_of_items (flat_map-cons items_or_self v es), size_append (items_or_self v) (flat_map items_or_self es), in_list v)

put_one : (bytes : ℕ) (v : Data) (o : Option (List Data)) → option_map (sum_from bytes) (option_map (λ es. v ∷ es) o) ≡ option_map (sum_from (saturated (bytes + in_a_list (size_by_items v)))) o
put_one bytes v None = refl
put_one bytes v (Some es) = ap Some (one_more bytes v es)

joined_by : (bytes : ℕ) (size : Size) (v : Option Data) (o : Option (List Data)) → option_map size_by_items v ≡ Some size
    → option_map (sum_from bytes) (option_and_then (λ d. option_map (λ es. d ∷ es) o) v) ≡ option_map (sum_from (saturated (bytes + in_a_list size))) o
joined_by bytes size None o h = cc
joined_by bytes size (Some v) o h =
    let same : size_by_items v ≡ size = cc in
    put_one bytes v o ∙ ap (λ s. option_map (sum_from (saturated (bytes + in_a_list s))) o) same

-- an item of this size is put in
pub joined_step : (f : Data → Option Data) (bytes : ℕ) (size : Size) (d : Data) (ds : List Data) → option_map size_by_items (f d) ≡ Some size
    → option_map (sum_from bytes) (all_some f (d ∷ ds)) ≡ option_map (sum_from (saturated (bytes + in_a_list size))) (all_some f ds)
joined_step f bytes size d ds h = joined_by bytes size (f d) (all_some f ds) h

size_of_joined : (o : Option (List Data)) → option_map size_by_items (option_map joined o) ≡ option_map (λ bytes. Items bytes) (option_map sum_of o)
size_of_joined None = refl
size_of_joined (Some ds) = ap (λ es. Some (Items (saturated (size_of_items es)))) (items_back (flat_map items_or_self ds))

-- all items are put in
pub all_joined : (f : Data → Option Data) (bytes : ℕ) (all : List Data) → saturated bytes ≡ bytes
    → option_map (sum_from bytes) (all_some f []) ≡ option_map sum_of (all_some f all) → Some (Items bytes) ≡ option_map size_by_items (option_map joined (all_some f all))
all_joined f bytes all small i =
    let sum : sum_from bytes [] ≡ bytes = omega (arith, small) in
    sym (size_of_joined (all_some f all) ∙ (ap (option_map (λ n. Items n)) (sym i) ∙ ap (λ n. Some (Items n)) sum))

by_star : (ps : List (List ℕ)) (p : List ℕ) (ds es : List Data) (star : Bool) → bytes_eq p (codes "*") ≡ star → (if star then Some ds else None) ≡ Some es
    → (if star then option_map joined (all_some (λ e. value_by ps e) ds) else option_and_then (λ e. value_by ps e) (item_at p ds)) ≡ option_map joined (all_some (λ e. value_by ps e) es)
by_star ps p ds es true b h = let same : ds ≡ es = cc in ap (λ xs. option_map joined (all_some (λ e. value_by ps e) xs)) same
by_star ps p ds es false b h = cc

-- the value is joined where all items are gone through
pub joined_at : (ps : List (List ℕ)) (p : List ℕ) (d : Data) (es : List Data) → all_items p d ≡ Some es → value_by (p ∷ ps) d ≡ option_map joined (all_some (λ e. value_by ps e) es)
joined_at ps p null es h = cc
joined_at ps p (truth b) es h = cc
joined_at ps p (whole n) es h = cc
joined_at ps p (text s) es h = cc
joined_at ps p (list is) es h = by_star ps p (list_of is) es (bytes_eq p (codes "*")) refl h
joined_at ps p (object ms) es h = cc
