-- The names that a get asks for.
use Rattle.std.specs.Prelude.{ℕ, List, Bool, false, Option, Some, None}
use Rattle.property_table.specs.Names.{has_name}

-- the name is one of those that are asked for one by one
abbrev pub asks_by_name : Option (List (List ℕ)) → List ℕ → Bool
asks_by_name None name = false
asks_by_name (Some names) name = has_name names name
