-- The members of an object that aren't null.
use Rattle.std.proofs.Common.{◌≡◌, ℕ, List, true, Option, Some, None, not, if◌then◌else◌, refl, ◌∙◌}
use Rattle.spec_json.specs.Data.{Data, Pair, lookup}
use Rattle.spec_json.specs.Parts.{is_null}
use Rattle.spec_json.specs.ObjectKeys.{keys_rise}
use Rattle.property_table.specs.Table.{given}
use Rattle.property_table.proofs.TableLemmas.{lookup_filter, value_kept}

abbrev pub value_given : Option Data → Option Data
value_given None = None
value_given (Some d) = if not (is_null d) then Some d else None

kept_is : (k : List ℕ) (found : Option Data) → value_kept (λ p. not (is_null p.1)) k found ≡ value_given found
kept_is k None = refl
kept_is k (Some d) = refl

pub given_is : (k : List ℕ) (ps : List Pair) → keys_rise ps ≡ true → lookup k (given ps) ≡ value_given (lookup k ps)
given_is k ps r = lookup_filter (λ p. not (is_null p.1)) k ps r ∙ kept_is k (lookup k ps)
