-- The members of an object, in a map by their keys.
use Rattle.std.specs.Prelude.{String, string_bytes}
use Rattle.spec_json.specs.Data.{Pair}
use Rattle.spec_json.specs.TreeData.{data_of}
use Rattle.spec_json.specs.declared.tree.Tree.{Tree}

-- the key and the value of an entry
abbrev pub pair_in : {Z : Type 0} → String Z × Tree → Pair
pair_in e = (string_bytes e.0, data_of e.1)
