-- Why a place is looked for from the front and from the end.
use Rattle.std.proofs.Common.{◌∙◌, FitsSigned, neg_ℤ, pos, rules, sym, w32}
use Rattle.std.specs.List.{list_any}
use Rattle.std.specs.Ordering.{int_eq}
use Rattle.std.proofs.lemmas.Int.{to_z-of_z}
use Rattle.rule_expand.proofs.Items.{left_open, place_among, settled}
use Rattle.rule_expand.proofs.occurs.has_place.Goals as goal

pub returns-then-contains : goal.returns-then-contains
returns-then-contains c =
    let f : FitsSigned w32 c.front_place.result = search rules in
    let a = simp c.front_place.ensures at (simp to_z-of_z at c.contains.ensures) in
    settled _ (list_any (λ k. int_eq k (neg_ℤ (pos c.args.back))) c.args.items.now) c.contains.result a c.if-contains.true ∙ sym (place_among c.args.front c.args.back c.args.items.now)

pub returns-else-contains : goal.returns-else-contains
returns-else-contains c =
    let f : FitsSigned w32 c.front_place.result = search rules in
    let g : FitsSigned w32 c.back_place.result = search rules in
    let a = simp c.front_place.ensures at (simp to_z-of_z at c.contains.ensures) in
    let b = simp c.back_place.ensures at (simp to_z-of_z at c.contains-else-contains.ensures) in
    left_open _ _ c.contains.result c.contains-else-contains.result a c.if-contains.false b ∙ sym (place_among c.args.front c.args.back c.args.items.now)
