-- What a failure says of a configuration, and of a field of it.
use Rattle.std.specs.Prelude.{◌≡◌, ℕ, Result, Err}
use Rattle.spec_site.specs.Configuration.{Fault, Site}
use Rattle.spec_site.specs.declared.field.Field.{Field}
use Rattle.session_doc.specs.declared.configuration_error.ConfigurationError.{ConfigurationError}
use Rattle.session_doc.specs.declared.configuration_error.ConfigurationError.TheVariants.{Bad, NoMemory}

-- a bad field is the first one, at its first bad item; out of memory says nothing
abbrev pub Reports : ConfigurationError → Result Site Fault → Type 0
Reports (Bad field index) answer = answer ≡ Err (record { field = field; index = index })
Reports NoMemory answer = Unit {0}

-- the field of this name is bad, at its first bad item; out of memory says nothing
abbrev pub ReportsField : {X : Type 0} → Field → ConfigurationError → Result X ℕ → Type 0
ReportsField name (Bad field index) answer = (field ≡ name) × (answer ≡ Err index)
ReportsField name NoMemory answer = Unit {0}
