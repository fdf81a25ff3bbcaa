-- What a failure says of a patch.
use Rattle.std.specs.Prelude.{◌≡◌, ℕ, List, Bool, true, Result, Err}
use Rattle.spec_json.specs.Data.{Data}
use Rattle.patch_object.specs.declared.patch.PatchError.{PatchError}
use Rattle.patch_object.specs.declared.patch.PatchError.TheVariants.{InvalidPatch, NoMemory}

-- an invalid patch names the first key that fails; out of memory says nothing
abbrev pub Reports : PatchError → Result Data (List ℕ) → Type 0
Reports (InvalidPatch key) r = r ≡ Err key
Reports NoMemory r = Unit {0}

-- the same of one key, which fails or doesn't
abbrev pub ReportsKey : PatchError → List ℕ → Bool → Type 0
ReportsKey (InvalidPatch key) k fails = (key ≡ k) × (fails ≡ true)
ReportsKey NoMemory k fails = Unit {0}
