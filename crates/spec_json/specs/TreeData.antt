-- What a `Tree` stands for, and the members of its objects.
use Rattle.std.specs.Prelude.{ℕ, List as Many}
use Rattle.std.specs.Borrow.{Bor}
use Rattle.spec_json.specs.Data.{Data, null, truth, whole, text, list, object, items_of, members_of, Pair}
use Rattle.spec_json.specs.declared.tree.Member.{Member}
use Rattle.spec_json.specs.declared.tree.Tree.{Tree}
use Rattle.spec_json.specs.declared.tree.Tree.TheVariants.{Null, Truth, Whole, Text, List as Listed, Object}

abbrev pub data_of : Tree → Data
data_of Null = null
data_of (Truth b) = truth b
data_of (Whole n) = whole n
data_of (Text s) = text s
data_of (Listed ds) = list (items_of ds)
data_of (Object ps) = object (members_of ps)

abbrev pub pair_of : Member → Pair
pair_of m = (m.key, data_of m.value)

-- a member whose key stands in the code
abbrev pub keyed : Bor (Many ℕ) × Tree → Pair
keyed m = (m.0.now, data_of m.1)
