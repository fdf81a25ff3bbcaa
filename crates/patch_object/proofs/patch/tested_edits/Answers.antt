use Rattle.std.proofs.Common.{◌≡◌, ◌∷◌, ◌+◌, map, drop, arith, sym, ap, refl, ◌∙◌}
use Rattle.std.proofs.lemmas.Grind.{common_steps}
use Rattle.spec_json.specs.TreeData.{data_of, pair_of}
use Rattle.std.proofs.lemmas.List.{at_drop_more}
use Rattle.spec_json.specs.declared.tree.Member.{Member}
use Rattle.patch_object.proofs.PatchLemmas.{placed_none, tested_more}
use Rattle.patch_object.proofs.patch.tested_edits.Goals as goal

pub loop-member-init : goal.loop-member-init
loop-member-init c =
    let none = placed_none (data_of c.args.tree.now) in
    record {
      failing = grind (arith, common_steps);
      earlier = λ ps. grind (arith, common_steps);
      placed = grind (arith, common_steps, none);
    }

pub loop-member-preserved : goal.loop-member-preserved
loop-member-preserved c =
    let items = c.deref-member-items.result.now in
    let m = c.member-item.result in
    let next : map pair_of (drop c.loop-member.member-index items) ≡ pair_of m ∷ map pair_of (drop (c.loop-member.member-index + 1) items) =
    at_drop_more (map pair_of) items c.loop-member.member-index m c.loop-member-test.true ∙ ap (λ (n : Member). pair_of n ∷ map pair_of (drop (c.loop-member.member-index + 1) items)) (sym c.member-item.is) in
    let all = tested_more (data_of c.args.tree.now) c.loop-member.earlier c.tested_pointer.new.earlier c.loop-member.edits.items c.push.new.self.items _ (pair_of m) (map pair_of (drop c.loop-member.member-index items)) (map pair_of (drop (c.loop-member.member-index + 1) items)) c.args.patch.now
    c.in_ok-push.ensures.items next c.loop-member.invariant.earlier c.in_ok-pointer.ensures.added c.in_ok-pointer.ensures.pointer refl c.in_ok-pointer.ensures.passes c.loop-member.invariant.failing c.loop-member.invariant.placed in
    record { failing = all.0; earlier = all.1; placed = all.2 }
