-- Values that are the same are equal, and so are the objects of that value.
use Rattle.std.proofs.Common.{◌≡◌, true, refl, sym, ap, ap₂, ◌∙◌}
use Rattle.std.proofs.lemmas.Bool.{and_from, and_parts, false≢true}
use Rattle.std.proofs.lemmas.Bool.Decides.{Decides-int_eq}
use Rattle.std.proofs.lemmas.Slice.Eq.{bytes_eq-Decides}
use Rattle.std.specs.Cmp.{booleans_Decides}
use Rattle.spec_json.proofs.KeyOrder.{same_key}
use Rattle.spec_json.specs.Data.{Data, null, truth, whole, text, list, object, Items, no_items, item, Members, no_members, member, items_back, list_of, pairs_back, pairs_of}
use Rattle.spec_json.specs.SameData.{same_data, same_items, same_members}
use Rattle.spec_json.specs.TreeData.{data_of}
use Rattle.spec_json.specs.declared.tree.Tree.{Tree}
use Rattle.spec_json.specs.declared.tree.Tree.TheVariants.{Null, Truth, Whole, Text, List as Listed, Object}

mutual
  -- each value is the same as itself
  pub same_self : (d : Data) → same_data d d ≡ true
  same_self null = refl
  same_self (truth b) = (booleans_Decides b b).1 refl
  same_self (whole n) = (Decides-int_eq n n).1 refl
  same_self (text s) = same_key s
  same_self (list ds) = items_self ds
  same_self (object ms) = members_self ms

  items_self : (ds : Items) → same_items ds ds ≡ true
  items_self no_items = refl
  items_self (item d ds) = and_from (same_data d d) (same_items ds ds) (same_self d) (items_self ds)

  members_self : (ms : Members) → same_members ms ms ≡ true
  members_self no_members = refl
  members_self (member k d ms) = and_from _ _ (same_key k) (and_from (same_data d d) (same_members ms ms) (same_self d) (members_self ms))

mutual
  -- and as no other
  pub same_is : (d e : Data) → same_data d e ≡ true → d ≡ e
  same_is null null h = refl
  same_is (truth a) (truth b) h = ap truth ((booleans_Decides a b).0 h)
  same_is (whole a) (whole b) h = ap whole ((Decides-int_eq a b).0 h)
  same_is (text a) (text b) h = ap text ((bytes_eq-Decides a b).0 h)
  same_is (list ds) (list es) h = ap list (items_are ds es h)
  same_is (object ms) (object ns) h = ap object (members_are ms ns h)
  same_is _ _ h = absurd (false≢true h)

  items_are : (ds es : Items) → same_items ds es ≡ true → ds ≡ es
  items_are no_items no_items h = refl
  items_are (item d ds) (item e es) h = let both = and_parts (same_data d e) (same_items ds es) h in ap₂ item (same_is d e both.0) (items_are ds es both.1)
  items_are _ _ h = absurd (false≢true h)

  members_are : (ms ns : Members) → same_members ms ns ≡ true → ms ≡ ns
  members_are no_members no_members h = refl
  members_are (member k d ms) (member l e ns) h =
      let keys = and_parts _ _ h in
      let both = and_parts (same_data d e) (same_members ms ns) keys.1 in
      λ i. member ((bytes_eq-Decides k l).0 keys.0 i) (same_is d e both.0 i) (members_are ms ns both.1 i)
  members_are _ _ h = absurd (false≢true h)

-- the object that stands for a value
abbrev tree_of : Data → Tree
tree_of null = Null
tree_of (truth b) = Truth b
tree_of (whole n) = Whole n
tree_of (text s) = Text s
tree_of (list ds) = Listed (list_of ds)
tree_of (object ms) = Object (pairs_of ms)

tree_back : (t : Tree) → tree_of (data_of t) ≡ t
tree_back Null = refl
tree_back (Truth b) = refl
tree_back (Whole n) = refl
tree_back (Text s) = refl
tree_back (Listed ds) = ap Listed (items_back ds)
tree_back (Object ps) = ap Object (pairs_back ps)

pub same_tree : (t u : Tree) → same_data (data_of t) (data_of u) ≡ true → t ≡ u
same_tree t u h = sym (tree_back t) ∙ ap tree_of (same_is (data_of t) (data_of u) h) ∙ tree_back u
