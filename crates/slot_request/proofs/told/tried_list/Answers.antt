use Rattle.std.proofs.Common.{◌≡◌, ◌<◌, ◌+◌, get_or, ap, length, map, take, ◌++◌, ◌∷◌, [], ◌∙◌, sym, subst, true, ℕ, List}
use Rattle.std.proofs.lemmas.List.{map-append, map_more}
use Rattle.spec_slots.specs.Texts.{tried_data}
use Rattle.spec_json.specs.TreeData.{data_of}
use Rattle.spec_json.specs.declared.tree.Tree.{Tree}
use Rattle.spec_slots.specs.declared.slot.Tried.{Tried}
use Rattle.spec_time.specs.Walls.{is_in_years}
use Rattle.slot_request.proofs.told.tried_list.Goals as goal

-- one tree more, which tells the next start
told_more : (ts : List Tree) (xs : List Tried) (i : ℕ) (d : Tried) (t : Tree) → i < length xs → map data_of ts ≡ map tried_data (take i xs) → data_of t ≡ tried_data (get_or xs i d)
    → map data_of (ts ++ t ∷ []) ≡ map tried_data (take (i + 1) xs)
told_more ts xs i d t lt old new = map-append data_of ts (t ∷ []) ∙ ap (λ ds. ds ++ data_of t ∷ []) old ∙ ap (λ x. map tried_data (take i xs) ++ x ∷ []) new ∙ sym (map_more tried_data xs i d lt)

pub tried_tree-requires : goal.tried_tree-requires
tried_tree-requires c = subst (λ (t : Tried). is_in_years t.start ≡ true) (sym c.one-item.is) (c.requires c.loop-one.one-index c.one-item.result c.loop-one-test.true)

pub loop-one-preserved : goal.loop-one-preserved
loop-one-preserved c = rw c.in_ok-push.ensures.items (told_more c.loop-one.items.items c.args.tried.now c.loop-one.one-index c.one-item.result c.in_ok-tried_tree.field-0 c.loop-one-test.true c.loop-one.invariant (c.in_ok-tried_tree.ensures ∙ ap tried_data c.one-item.is))
