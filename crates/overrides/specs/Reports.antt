-- What calls say of the objects of occurrences, and what a failure says of an event.
use Rattle.std.specs.Prelude.{◌≡◌, ℕ, List, Option, Some, None, Result, Ok, Err}
use Rattle.spec_json.specs.Data.{Data}
use Rattle.spec_json.specs.TreeData.{data_of}
use Rattle.spec_json.specs.declared.tree.Tree.{Tree}
use Rattle.spec_recurrence.specs.Overrides.{overrides_in, refused_in}
use Rattle.spec_site.specs.TimeZones.{ZoneText}
use Rattle.overrides.specs.declared.exceptions.OverrideError.{OverrideError}
use Rattle.overrides.specs.declared.exceptions.OverrideError.TheVariants.{BadOverride, BadOverrides, NoMemory}

-- the patched object, none where the patch fails
abbrev pub IsPatched : Option Tree → Result Data (List ℕ) → Type 0
IsPatched (Some t) r = r ≡ Ok (data_of t)
IsPatched None (Ok d) = ⊥
IsPatched None (Err key) = Unit {0}

-- the overrides aren't an object of at most 128 members, or the first that is refused; out of memory says nothing
abbrev pub Reports : OverrideError → List ZoneText → Data → Type 0
Reports BadOverrides zones d = overrides_in d ≡ None
Reports (BadOverride key) zones d = refused_in zones d ≡ Some key
Reports NoMemory zones d = Unit {0}

-- the same of overrides that are few
abbrev pub ReportsAmong : OverrideError → Option (List ℕ) → Type 0
ReportsAmong BadOverrides refused = ⊥
ReportsAmong (BadOverride key) refused = refused ≡ Some key
ReportsAmong NoMemory refused = Unit {0}
