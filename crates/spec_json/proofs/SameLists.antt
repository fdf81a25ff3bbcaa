-- The test of two lists, as a loop over both makes it.
use Rattle.std.proofs.Common.{◌≡◌, ◌≢◌, suc, List, [], ◌∷◌, true, false, length, map, refl, ap, arith}
use Rattle.std.proofs.lemmas.Bool.{and_right}
use Rattle.spec_json.specs.Data.{items_of, members_of}
use Rattle.spec_json.specs.SameData.{same_items, same_members}
use Rattle.spec_json.specs.TreeData.{data_of, pair_of}
use Rattle.spec_json.specs.declared.tree.Member.{Member}
use Rattle.spec_json.specs.declared.tree.Tree.{Tree}

-- lists of different lengths aren't the same
pub unlike_items : (ts us : List Tree) → length ts ≢ length us → same_items (items_of (map data_of ts)) (items_of (map data_of us)) ≡ false
unlike_items [] [] h = absurd (h refl)
unlike_items [] (u ∷ us) h = refl
unlike_items (t ∷ ts) [] h = refl
unlike_items (t ∷ ts) (u ∷ us) h = and_right _ _ (unlike_items ts us (λ e. h (ap suc e)))

pub unlike_members : (ms ns : List Member) → length ms ≢ length ns → same_members (members_of (map pair_of ms)) (members_of (map pair_of ns)) ≡ false
unlike_members [] [] h = absurd (h refl)
unlike_members [] (n ∷ ns) h = refl
unlike_members (m ∷ ms) [] h = refl
unlike_members (m ∷ ms) (n ∷ ns) h = and_right _ _ (and_right _ _ (unlike_members ms ns (λ e. h (ap suc e))))

pub no_items_left : (us : List Tree) → length us ≡ 0 → same_items (items_of []) (items_of (map data_of us)) ≡ true
no_items_left [] h = refl
no_items_left (u ∷ us) h = absurd (omega (arith, h))

pub no_members_left : (ns : List Member) → length ns ≡ 0 → same_members (members_of []) (members_of (map pair_of ns)) ≡ true
no_members_left [] h = refl
no_members_left (n ∷ ns) h = absurd (omega (arith, h))
