use Rattle.std.proofs.Common.{map, length, arith, ap}
use Rattle.std.proofs.lemmas.List.{drop_all}
use Rattle.spec_json.specs.Json.{text_of}
use Rattle.spec_json.specs.TreeData.{data_of, pair_of}
use Rattle.json_edge.specs.Lengths.{size_of_items, size_of_members}
use Rattle.json_edge.proofs.Lengths.{list_length, object_length}
use Rattle.json_edge.proofs.length.+text_length.Goals as goal

pub items_length-returns : goal.items_length-returns
items_length-returns t c =
    let none_left = drop_all c.loop-item.item-index c.deref-item-items.result.now c.loop-item-test.false in
    let nothing = ap (λ ts. size_of_items (map data_of ts)) none_left in
    let same = ap size_of_items (ap (λ ts. map data_of ts) c.deref-item-items.ensures.value) in
    omega (arith, nothing, same, c.loop-item.invariant.sum, c.loop-item.invariant.small)

pub members_length-returns : goal.members_length-returns
members_length-returns t c =
    let none_left = drop_all c.loop-member.member-index c.deref-member-items.result.now c.loop-member-test.false in
    let nothing = ap (λ ms. size_of_members (map pair_of ms)) none_left in
    let same = ap size_of_members (ap (λ ms. map pair_of ms) c.deref-member-items.ensures.value) in
    omega (arith, nothing, same, c.loop-member.invariant.sum, c.loop-member.invariant.small)

pub text_length-returns-in-List : goal.text_length-returns-in-List
text_length-returns-in-List t c = omega (arith, c.in_brackets.ensures, c.items_length.ensures, list_length c.in-List.list, ap size_of_items c.items.ensures, ap (λ t. length (text_of (data_of t))) c.in-List.is)

pub text_length-returns-in-Object : goal.text_length-returns-in-Object
text_length-returns-in-Object t c = omega (arith, c.in_brackets-in-Object.ensures, c.members_length.ensures, object_length c.in-Object.object, ap size_of_members c.members.ensures.value, ap (λ t. length (text_of (data_of t))) c.in-Object.is)
