-- Why some item is beyond the month where the least item that may be is there.
use Rattle.std.proofs.Common.{◌∙◌, FitsSigned, rules, w32}
use Rattle.std.proofs.lemmas.Int.{to_z-of_z}
use Rattle.rule_expand.proofs.Items.{any_beyond}
use Rattle.rule_expand.proofs.moved.has_beyond.Goals as goal

pub returns : goal.returns
returns c =
    let f : FitsSigned w32 c.first_beyond.result = search rules in
    let none = simp c.first_beyond.ensures at (simp to_z-of_z at c.at_least.ensures.none) in
    let some = simp c.first_beyond.ensures at (simp to_z-of_z at c.at_least.ensures.some) in
    c.is_some.ensures ∙ any_beyond c.args.length c.args.items.now c.at_least.result none some
