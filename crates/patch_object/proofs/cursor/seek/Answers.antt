use Rattle.std.proofs.Common.{◌≡◌, ◌++◌, [], ◌∷◌, map, true, subst, sym, ap, ◌∙◌, append_assoc}
use Rattle.std.proofs.lemmas.List.{map-append}
use Rattle.spec_json.specs.ObjectKeys.{keys_rise}
use Rattle.spec_json.specs.TreeData.{pair_of}
use Rattle.patch_object.proofs.CursorLemmas.{all_below_push, first_below, front_rises}
use Rattle.patch_object.proofs.cursor.seek.Goals as goal

pub pop_from-requires : goal.pop_from-requires
pop_from-requires c =
    front_rises (map pair_of c.loop-member.before.items) (map pair_of c.loop-member.behind.items) (subst (λ ms. keys_rise ms ≡ true) (sym c.loop-member.invariant) c.requires)

pub loop-member-2-preserved : goal.loop-member-2-preserved
loop-member-2-preserved c =
    let p = pair_of c.in-Some-pop_below.member in
    let took = c.in-Some-pop_below.ensures in
    let moved : map pair_of c.push.new.self.items ≡ map pair_of c.loop-member-2.before.items ++ p ∷ [] = ap (map pair_of) c.in_ok-push.ensures.items ∙ map-append pair_of c.loop-member-2.before.items (c.in-Some-pop_below.member ∷ []) in
    record {
      same = rw moved (append_assoc (map pair_of c.loop-member-2.before.items) (p ∷ []) (map pair_of c.pop_below.new.members.items) ∙ ap (λ ms. map pair_of c.loop-member-2.before.items ++ ms) (sym took.1) ∙ c.loop-member-2.invariant.same);
      below = rw moved (all_below_push c.args.key.now (map pair_of c.loop-member-2.before.items) p c.loop-member-2.invariant.below (first_below c.args.key.now p (map pair_of c.pop_below.new.members.items) (map pair_of c.loop-member-2.behind.items) took.1 took.0));
    }
