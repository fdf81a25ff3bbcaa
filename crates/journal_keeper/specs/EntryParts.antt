-- What an object says of an entry.
use Rattle.std.specs.Prelude.{◌^◌, ℕ, ℤ, pos, negsuc, List, Option, Some, None, codes, nat_le, option_and_then, if◌then◌else◌}
use Rattle.std.specs.Str.{bytes_eq}
use Rattle.spec_history.specs.declared.entry.Kind.{Kind}
use Rattle.spec_history.specs.declared.entry.Kind.TheVariants.{Calendar, Event}
use Rattle.spec_json.specs.Data.{Data}
use Rattle.spec_json.specs.Parts.{number_at, text_at}

-- a number from 0 to the greatest that it may be
abbrev pub small : ℕ → ℤ → Option ℕ
small most (pos n) = if nat_le n most then Some n else None
small most (negsuc n) = None

abbrev pub small_at : ℕ → List ℕ → Data → Option ℕ
small_at most key d = option_and_then (small most) (number_at key d)

abbrev pub kind_named : List ℕ → Option Kind
kind_named s = if bytes_eq s (codes "calendar") then Some Calendar else if bytes_eq s (codes "event") then Some Event else None

abbrev pub kind_in : Data → Option Kind
kind_in d = option_and_then kind_named (text_at (codes "kind") d)

-- 2 ^ 32 - 1
abbrev pub most_u32 : ℕ
most_u32 = 4294967295

-- the greatest number of an object that is kept
abbrev pub most_id : ℕ
most_id = 2 ^ 40
