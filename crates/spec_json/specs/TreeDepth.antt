-- A child is no deeper than what its parent holds, by which recursions over trees end.
use Rattle.std.specs.Prelude.{ℕ, zero, suc, ◌≤◌, ◌<◌, length, get_or, List, [], ◌∷◌, map}
use Rattle.std.proofs.Common.{arith}
use denote.Param.Weighed.{most}
use Rattle.spec_json.specs.Data.{items_of, members_of, depth, items_depth, members_depth}
use Rattle.spec_json.specs.TreeData.{data_of, pair_of}
use Rattle.spec_json.specs.declared.tree.Member.{Member}
use Rattle.spec_json.specs.declared.tree.Tree.{Tree}
use Rattle.spec_json.specs.declared.tree.Tree.TheVariants.{Null, Truth, Whole, Text, List as Listed, Object}
use Rattle.spec_json.specs.declared.tree.TreeList.TheDeep.{deep-Tree, deep-Member}

pub tree_falls : (t : Tree) → deep-Tree t ≤ depth (data_of t)
tree_falls Null = omega arith
tree_falls (Truth b) = omega arith
tree_falls (Whole n) = omega arith
tree_falls (Text s) = omega arith
tree_falls (Listed ds) = omega arith
tree_falls (Object ps) = omega arith

pub items_fall : (ts : List Tree) → most (λ t. deep-Tree t) ts ≤ items_depth (items_of (map data_of ts))
items_fall [] = omega arith
items_fall (t ∷ ts) = omega (arith, tree_falls t, items_fall ts)

pub members_fall : (ms : List Member) → most (λ m. deep-Member m) ms ≤ members_depth (members_of (map pair_of ms))
members_fall [] = omega arith
members_fall (m ∷ ms) = omega (arith, tree_falls m.value, members_fall ms)

-- for recursions in other crates: no item is deeper than all
pub item_falls : (ts : List Tree) (i : ℕ) (t : Tree) → i < length ts → depth (data_of (get_or ts i t)) ≤ items_depth (items_of (map data_of ts))
item_falls [] i t h = absurd (omega arith)
item_falls (u ∷ ts) zero t h = omega arith
item_falls (u ∷ ts) (suc i) t h = omega (arith, item_falls ts i t (omega arith))

pub member_falls : (ms : List Member) (i : ℕ) (m : Member) → i < length ms → depth (data_of (get_or ms i m).value) ≤ members_depth (members_of (map pair_of ms))
member_falls [] i m h = absurd (omega arith)
member_falls (n ∷ ms) zero m h = omega arith
member_falls (n ∷ ms) (suc i) m h = omega (arith, member_falls ms i m (omega arith))
