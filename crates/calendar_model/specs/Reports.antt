-- What a failure says of an object.
use Rattle.std.specs.Prelude.{◌≡◌, ℕ, List, []}
use Rattle.calendar_model.specs.declared.read.CalendarError.{CalendarError}
use Rattle.calendar_model.specs.declared.read.CalendarError.TheVariants.{BadCalendar, NoMemory}

-- the bad properties, of which there are some; out of memory says nothing
abbrev pub Reports : CalendarError → List (List ℕ) → Type 0
Reports (BadCalendar properties) bad = (properties ≡ bad) × (bad ≡ [] → ⊥)
Reports NoMemory bad = Unit {0}
