-- The conditions of an operator.
use Rattle.std.specs.Prelude.{List, Option, codes, option_and_then}
use Rattle.spec_json.specs.Data.{Data, Pair, lookup}
use Rattle.spec_json.specs.Parts.{as_list}

-- the items of `conditions`, where it is a list
abbrev pub conditions_in : List Pair → Option (List Data)
conditions_in ps = option_and_then as_list (lookup (codes "conditions") ps)
