use Rattle.std.proofs.Common.{◌≡◌, ◌∙◌, ◌+◌, ◌<◌, Some, None, ap, drop, filter, get_or, length, map, position, rules, take}
use Rattle.std.proofs.lemmas.List.{take_rest}
use Rattle.std.specs.Ordering.{is_lt}
use Rattle.std.specs.Str.{bytes_eq}
use Rattle.expanded_query.proofs.AnchorLemmas.{anchor_place, no_anchor}
use Rattle.expanded_query.specs.Founds.{found_item, id_at, is_not_behind}
use Rattle.expanded_query.specs.declared.ranked.Ranked.{Ranked}
use Rattle.spec_queries.specs.Comparing.{by_all}
use Rattle.expanded_query.proofs.anchor.place_in_order.Goals as goal

pub returns-in_default-clause-value : goal.returns-in_default-clause-value
returns-in_default-clause-value c =
    let u = bytes_eq c.args.anchor.now in
    let none : None ≡ c.in_ok-at.field-0 = search rules in
    no_anchor c.args.order.now u c.in_ok-results.results.items c.args.found.now c.in_ok-results.ensures
    (none ∙ c.in_ok-at.ensures.value ∙ ap (λ rs. position u (map id_at rs)) c.deref.ensures.value)

pub returns-in-None-clause-value : goal.returns-in-None-clause-value
returns-in-None-clause-value c =
    let cs = c.args.order.now in
    let u = bytes_eq c.args.anchor.now in
    let rs = c.in_ok-results.results.items in
    let at = c.in-Some.at in
    let one = c.index.result.now in
    let item = found_item one.found.now in
    let within : at < length rs = search rules in
    let is : one ≡ get_or rs at one = search rules in
    let some : Some at ≡ c.in_ok-at.field-0 = search rules in
    let here : Some at ≡ position u (map id_at rs) = some ∙ c.in_ok-at.ensures.value ∙ ap (λ rs. position u (map id_at rs)) c.deref.ensures.value in
    let none : None ≡ c.in_ok-place_of.field-0 = search rules in
    let behind : None ≡ position u (map id_at (drop (at + 1) rs)) =
    none ∙ c.in_ok-place_of.ensures.value ∙ ap (λ xs. position u (map id_at xs)) (take_rest c.deref-2.result.now (at + 1) ∙ ap (drop (at + 1)) c.deref-2.ensures.value) in
    let front = ap (take at) c.deref-in-None.ensures.value in
    let back = take_rest c.deref-in-None-2.result.now (at + 1) ∙ ap (drop (at + 1)) c.deref-in-None-2.ensures.value in
    let earlier : c.up_to-earlier.result ≡ length (filter (λ r. is_not_behind cs item (found_item r.found.now)) (take at rs)) =
    c.up_to-earlier.ensures.value ∙ (λ i. length (filter (λ (r : Ranked). is_not_behind (c.comparators.ensures i) item (found_item r.found.now)) (front i))) in
    let later : c.before-later.result ≡ length (filter (λ r. is_lt (by_all cs (found_item r.found.now) item)) (drop (at + 1) rs)) =
    c.before-later.ensures.value ∙ (λ i. length (filter (λ (r : Ranked). is_lt (by_all (c.comparators-in-None.ensures i) (found_item r.found.now) item)) (back i))) in
    (λ i. Some (earlier i + later i)) ∙ anchor_place cs u at one rs c.args.found.now within is c.in_ok-results.ensures here behind
