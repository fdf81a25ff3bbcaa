use Rattle.std.proofs.Common.{◌≡◌, ◌+◌, ◌∷◌, Some, drop, map, arith, option_map, flat_map, sym, ap, ◌∙◌}
use Rattle.std.proofs.lemmas.List.{at_drop_more, drop_all, drop_more}
use Rattle.json_edge.specs.Lengths.{saturated, size_of_items}
use Rattle.spec_batch.specs.References.{items_or_self, value_by}
use Rattle.spec_json.specs.Data.{Data}
use Rattle.spec_json.specs.Parts.{all_some}
use Rattle.spec_json.specs.TreeData.{data_of}
use Rattle.spec_json.specs.declared.tree.Tree.{Tree}
use Rattle.result_refs.proofs.SizeLemmas.{all_joined, joined_at, joined_step}
use Rattle.result_refs.specs.Sizes.{size_by_items}
use Rattle.result_refs.specs.Steps.{all_items}
use Rattle.result_refs.proofs.size.+size.Goals as goal

pub size_by-returns-in-Some : goal.size_by-returns-in-Some
size_by-returns-in-Some t c =
    let value = data_of c.args.value.now in
    let part = c.index-parts-i.result in
    let found : all_items part value ≡ Some (map data_of c.in-Some.items.now) = sym c.all_items.ensures ∙ ap (λ o. option_map (λ s. map data_of s.now) o) c.in-Some.is in
    let parts : drop c.args.i c.args.parts.now ≡ part ∷ drop (c.args.i + 1) c.args.parts.now =
    drop_more c.args.parts.now c.args.i part (omega (arith, c.requires, c.if-i-parts.false)) ∙ ap (λ p. p ∷ drop (c.args.i + 1) c.args.parts.now) (sym c.index-parts-i.is) in
    c.size_joined.ensures ∙ sym (ap (λ o. option_map size_by_items o) (ap (λ ps. value_by ps value) parts ∙ joined_at (drop (c.args.i + 1) c.args.parts.now) part value (map data_of c.in-Some.items.now) found))

pub size_joined-loop-item-preserved : goal.size_joined-loop-item-preserved
size_joined-loop-item-preserved t c =
    let f : Data → _ = λ d. value_by (drop c.args.i c.args.parts.now) d in
    let item = c.item-item.result in
    let rest = drop (c.loop-item.item-index + 1) c.args.items.now in
    let items : map data_of (drop c.loop-item.item-index c.args.items.now) ≡ data_of item ∷ map data_of rest =
    at_drop_more (map data_of) c.args.items.now c.loop-item.item-index item c.loop-item-test.true ∙ ap (λ (u : Tree). data_of u ∷ map data_of rest) (sym c.item-item.is) in
    let sized = sym c.size_by.ensures ∙ c.in-Some.is in
    let step = joined_step f c.loop-item.bytes c.in-Some.size (data_of item) (map data_of rest) sized in
    record {
      sum = ap (λ n. option_map (λ ds. saturated (n + size_of_items (flat_map items_or_self ds))) (all_some f (map data_of rest))) (c.saturating_add-bytes.ensures ∙ ap (λ n. saturated (c.loop-item.bytes + n)) c.in_a_list.ensures)
          ∙ (sym step ∙ (sym (ap (λ ds. option_map (λ es. saturated (c.loop-item.bytes + size_of_items (flat_map items_or_self es))) (all_some f ds)) items) ∙ c.loop-item.invariant.sum));
      small = omega (arith, c.saturating_add-bytes.ensures);
    }

pub size_joined-returns : goal.size_joined-returns
size_joined-returns t c =
    let f : Data → _ = λ d. value_by (drop c.args.i c.args.parts.now) d in
    let none_left = drop_all c.loop-item.item-index c.args.items.now c.loop-item-test.false in
    all_joined f c.loop-item.bytes (map data_of c.args.items.now) (omega (arith, c.loop-item.invariant.small))
    (sym (ap (λ ts. option_map (λ ds. saturated (c.loop-item.bytes + size_of_items (flat_map items_or_self ds))) (all_some f (map data_of ts))) none_left) ∙ c.loop-item.invariant.sum)
