use Rattle.std.proofs.Common.{◌≡◌, ◌++◌, ◌∷◌, [], map, option_map, true, sym, ap, ap₂, subst, ◌∙◌, rules}
use Rattle.std.proofs.lemmas.List.{map-append}
use Rattle.std.specs.Vec.Iter.{into_iter_items}
use Rattle.spec_json.specs.ObjectKeys.{HasOrderedKeys}
use Rattle.spec_json.specs.TreeData.{data_of, pair_of}
use Rattle.json_edge.specs.FoundMembers.{is_next, last_key, whole_pairs, first_of_each}
use Rattle.json_edge.specs.FoundData.{found_of}
use Rattle.json_edge.proofs.Distinct.{kept, rises_on}
use Rattle.json_edge.proofs.object.distinct.Goals as goal

pub loop-key-preserved-in-Continue-branch-2 : goal.loop-key-preserved-in-Continue-branch-2
loop-key-preserved-in-Continue-branch-2 c =
    let f = c.in-Some.field-0 in
    let done = map pair_of c.loop-key.members.items in
    let more = into_iter_items c.next.new.self in
    let next : is_next (last_key done) f.key ≡ true = ap₂ (λ l k. is_next (last_key (map pair_of l)) k) (sym c.deref.ensures.value) (sym c.as_str.ensures) ∙ sym c.if-is_new.ensures in
    let rest : into_iter_items c.loop-key.key-iterator ≡ f ∷ more = search rules in
    let pushed : map pair_of c.push.new.self.items ≡ done ++ (f.key, data_of c.in-Some-value.value) ∷ [] = ap (map pair_of) c.in_ok-push-in-Some-value.ensures.items ∙ map-append pair_of c.loop-key.members.items _ in (
      c.loop-key.invariant.0
          ∙ ap (λ it. option_map (λ qs. done ++ qs) (whole_pairs (first_of_each (last_key done) (map found_of it)))) rest
          ∙ ap (λ v. option_map (λ qs. done ++ qs) (whole_pairs (first_of_each (last_key done) ((f.key, option_map data_of v) ∷ map found_of more)))) c.in-Some-value.is
          ∙ kept done f.key (data_of c.in-Some-value.value) (map found_of more) next
          ∙ ap (λ ps. option_map (λ qs. ps ++ qs) (whole_pairs (first_of_each (last_key ps) (map found_of more)))) (sym pushed),
      subst HasOrderedKeys (sym pushed) (rises_on done (f.key, data_of c.in-Some-value.value) c.loop-key.invariant.1 next),
    )
