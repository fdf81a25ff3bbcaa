use Rattle.std.proofs.Common.{◌≡◌, ◌∙◌, ◌-◌, ap, length, map, rules}
use Rattle.std.proofs.lemmas.Result.{IfOk-weaker}
use Rattle.expanded_query.proofs.LastLemmas.{window_found}
use Rattle.expanded_query.specs.Founds.{id_at, ordered_ids}
use Rattle.spec_queries.specs.Found.{cut_out}
use Rattle.spec_queries.specs.declared.window.Cut.{Cut}
use Rattle.expanded_query.proofs.window.window_in_order.Goals as goal

pub returns : goal.returns
returns c =
    let found = c.args.found.now in
    let rest = c.in_ok-rest.rest.items in
    let count = c.saturating_sub-passed.result in
    let window : Cut = record { from = c.saturating_sub.result; to = c.saturating_sub-2.result } in
    let passed : count ≡ length found - length rest = search rules in
    let from : window.from ≡ c.args.cut.from - count = search rules in
    let to : window.to ≡ c.args.cut.to - count = search rules in
    let first = c.in_ok-first.first.items in
    let told : map id_at c.cut_out.result.now ≡ cut_out c.args.cut (ordered_ids c.args.order.now found) =
    ap (map id_at) (c.cut_out.ensures ∙ ap (cut_out window) c.deref-4.ensures.value)
    ∙ window_found c.args.order.now c.args.cut window count first rest c.in_ok-results.results.items found passed from to
    c.in_ok-results.ensures c.in_ok-rest.ensures.rest c.in_ok-rest.ensures.passed c.in_ok-first.ensures in
    IfOk-weaker c.from_slice.result (λ v. v.items ≡ c.cut_out.result.now) (λ v. map id_at v.items ≡ cut_out c.args.cut (ordered_ids c.args.order.now found))
    (λ v is. ap (map id_at) is ∙ told) c.from_slice.ensures.items
