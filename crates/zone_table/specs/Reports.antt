-- What a failure says of a list of zones.
use Rattle.std.specs.Prelude.{◌≡◌, ℕ, Option, Some}
use Rattle.zone_table.specs.declared.zones.ZoneError.{ZoneError}
use Rattle.zone_table.specs.declared.zones.ZoneError.TheVariants.{BadZone, NoMemory}

-- a bad zone is the first one; out of memory says nothing
abbrev pub Reports : ZoneError → Option ℕ → Type 0
Reports (BadZone index) first = first ≡ Some index
Reports NoMemory first = Unit {0}
