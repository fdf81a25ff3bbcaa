-- What an error says of the arguments. Out of memory says nothing.
use Rattle.std.specs.Prelude.{◌≡◌, ℕ, Option, None}
use Rattle.spec_batch.specs.References.{Resolution, too_many, both_forms, bad_reference, too_large}
use Rattle.json_edge.specs.Lengths.{saturated}
use Rattle.result_refs.specs.declared.arguments.ReferenceError.{ReferenceError}
use Rattle.result_refs.specs.declared.arguments.ReferenceError.TheVariants.{TooMany, BothForms, BadReference, TooLarge, NoMemory}

abbrev pub Reports : ReferenceError → Resolution → Type 0
Reports TooMany r = r ≡ too_many
Reports BothForms r = r ≡ both_forms
Reports BadReference r = r ≡ bad_reference
Reports (TooLarge size) r = (n : ℕ) × (r ≡ too_large n) × (size ≡ saturated n)
Reports NoMemory r = Unit {0}

-- the error comes from references without a value alone
abbrev pub ReportsNone : {X : Type 0} → ReferenceError → Option X → Type 0
ReportsNone TooMany o = ⊥
ReportsNone BothForms o = ⊥
ReportsNone BadReference o = o ≡ None
ReportsNone (TooLarge size) o = ⊥
ReportsNone NoMemory o = Unit {0}
