-- What a failure says of an object.
use Rattle.std.specs.Prelude.{◌≡◌, ℕ, List, []}
use Rattle.single_event.specs.declared.read.EventError.{EventError}
use Rattle.single_event.specs.declared.read.EventError.TheVariants.{BadEvent, NoMemory}

-- the bad properties, of which there are some; out of memory says nothing
abbrev pub Reports : EventError → List (List ℕ) → Type 0
Reports (BadEvent properties) bad = (properties ≡ bad) × (bad ≡ [] → ⊥)
Reports NoMemory bad = Unit {0}
