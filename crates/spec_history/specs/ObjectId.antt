-- The ids of objects (RFC 8620 section 1.2).
use Rattle.std.specs.Prelude.{ℕ, List, [], ◌∷◌, ◌==◌, Option, Some, None, decimal, nat_lt, option_and_then, if◌then◌else◌}
use Rattle.spec_history.specs.declared.entry.Kind.{Kind}
use Rattle.spec_history.specs.declared.entry.Kind.TheVariants.{Calendar, Event}
use Rattle.spec_json.specs.Number.{number_in}

-- the first byte of an object's id: `C` or `E`
abbrev pub letter : Kind → ℕ
letter Calendar = 67
letter Event = 69

-- the id of the object of this number
abbrev pub id_text : Kind → ℕ → List ℕ
id_text kind n = letter kind ∷ decimal n

abbrev pub positive : ℕ → Option ℕ
positive n = if nat_lt 0 n then Some n else None

-- the number of the object that an id names
abbrev pub object_number : Kind → List ℕ → Option ℕ
object_number kind [] = None
object_number kind (b ∷ bs) = if b == letter kind then option_and_then positive (number_in bs) else None
