-- A list with a name is not empty, a patch without `excluded` changes all that it names, and the members that are kept stand in order.
use Rattle.std.proofs.Common.{◌≡◌, ℕ, List, [], ◌∷◌, ◌==◌, ◌++◌, ◌||◌, true, false, Option, None, Some, codes, length, arith, ap, refl, ◌∙◌}
use Rattle.std.proofs.lemmas.Bool.Decides.{nat_tests}
use Rattle.patch_object.proofs.Paths.{without-absent}
use Rattle.spec_json.specs.Data.{Pair, lookup}
use Rattle.spec_json.specs.ObjectKeys.{keys_rise}
use Rattle.spec_json.specs.Parts.{some_of}
use Rattle.spec_json.specs.Pointer.{parts}
use Rattle.spec_recurrence.specs.Overrides.{first_is_fixed, fixed_properties, patch_changes, touches_fixed}
use Rattle.std.specs.List.{list_any}
use Rattle.std.specs.Option.{option_map_or}
use Rattle.property_table.specs.Names.{has_name}
use Rattle.property_table.proofs.TableLemmas.{rises_filter}
use Rattle.overrides.specs.Parts.{first_part, firsts_of, is_needed, kept}

pub some_name : (n : List ℕ) (ns : List (List ℕ)) → (length (n ∷ ns) == 0) ≡ false
some_name n ns = grind (arith, nat_tests)

pub no_exclusion : (patch : List Pair) → lookup (codes "excluded") patch ≡ None → patch_changes patch ≡ patch
no_exclusion patch e = without-absent (codes "excluded") patch e

pub kept_rises : (firsts : List (List ℕ)) (ps : List Pair) → keys_rise ps ≡ true → keys_rise (kept (is_needed firsts) ps) ≡ true
kept_rises firsts ps r = rises_filter (λ p. is_needed firsts p.0) ps r

fixed_first : (o : Option (List (List ℕ))) (firsts : List (List ℕ)) → list_any (has_name fixed_properties) (some_of (first_part o) ++ firsts) ≡ (option_map_or first_is_fixed o false || list_any (has_name fixed_properties) firsts)
fixed_first None firsts = refl
fixed_first (Some []) firsts = refl
fixed_first (Some (p ∷ ps)) firsts = refl

-- a patch touches what is fixed where one of its keys begins with it
pub fixed_among_firsts : (patch : List Pair) → list_any (has_name fixed_properties) (firsts_of patch) ≡ list_any touches_fixed patch
fixed_among_firsts [] = refl
fixed_among_firsts (p ∷ patch) = fixed_first (parts p.0) (firsts_of patch) ∙ ap (λ b. option_map_or first_is_fixed (parts p.0) false || b) (fixed_among_firsts patch)
