-- A tree from its data.
use Rattle.std.specs.Prelude.{◌≡◌, refl}
use Rattle.std.proofs.Common.{ap, sym, ◌∙◌}
use Rattle.spec_json.specs.Data.{Data, items_back, list, list_of, null, object, pairs_back, pairs_of, text, truth, whole}
use Rattle.spec_json.specs.TreeData.{data_of}
use Rattle.spec_json.specs.declared.tree.Tree.{Tree}
use Rattle.spec_json.specs.declared.tree.Tree.TheVariants.{Null, Truth, Whole, Text, List as Listed, Object}

abbrev pub tree_of : Data → Tree
tree_of null = Null
tree_of (truth b) = Truth b
tree_of (whole n) = Whole n
tree_of (text s) = Text s
tree_of (list ds) = Listed (list_of ds)
tree_of (object ms) = Object (pairs_of ms)

pub tree_back : (t : Tree) → tree_of (data_of t) ≡ t
tree_back Null = refl
tree_back (Truth b) = refl
tree_back (Whole n) = refl
tree_back (Text s) = refl
tree_back (Listed ds) = ap Listed (items_back ds)
tree_back (Object ms) = ap Object (pairs_back ms)

-- trees of the same data are one
pub same_tree : (t u : Tree) → data_of t ≡ data_of u → t ≡ u
same_tree t u e = sym (tree_back t) ∙ (ap tree_of e ∙ tree_back u)
