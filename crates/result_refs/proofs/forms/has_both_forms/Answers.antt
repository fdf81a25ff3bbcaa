use Rattle.std.proofs.Common.{◌≡◌, true, [], drop, map, arith, sym, ap, ◌∙◌}
use Rattle.std.proofs.lemmas.Grind.{common_steps}
use Rattle.std.proofs.lemmas.List.{drop_all}
use Rattle.spec_json.specs.TreeData.{pair_of}
use Rattle.result_refs.proofs.FormLemmas.{walk, walk_finds}
use Rattle.result_refs.proofs.forms.has_both_forms.Goals as goal

pub returns-then-begins_with : goal.returns-then-begins_with
returns-then-begins_with c =
    let met : walk (map pair_of (drop c.loop-member.member-index c.deref-member-items.result.now)) (map pair_of c.loop-member.rest.now) ≡ true = grind (arith, common_steps) in
    sym met ∙ (c.loop-member.invariant ∙ walk_finds c.args.arguments.now c.members.ensures.ordered)

pub returns : goal.returns
returns c =
    let none_left : drop c.loop-member.member-index c.deref-member-items.result.now ≡ [] = drop_all c.loop-member.member-index c.deref-member-items.result.now c.loop-member-test.false in
    sym (ap (λ ms. walk (map pair_of ms) (map pair_of c.loop-member.rest.now)) none_left) ∙ (c.loop-member.invariant ∙ walk_finds c.args.arguments.now c.members.ensures.ordered)
