use Rattle.std.proofs.Common.{◌≡◌, [], ap, ap₂, ◌∙◌}
use Rattle.std.proofs.lemmas.Result.{IfOk-weaker}
use Rattle.account_store.specs.Earlier.{changes_up_to}
use Rattle.account_store.specs.Store.{entries}
use Rattle.spec_history.specs.declared.entry.Kind.TheVariants.{Event}
use Rattle.spec_queries.specs.Results.{numbers_at, places}
use Rattle.query_methods.proofs.ComparedLemmas.{result_compared}
use Rattle.query_methods.proofs.ResultLemmas.{result_uncompared}
use Rattle.query_methods.proofs.result.result_among.Goals as goal
use Rattle.query_methods.specs.Sights.{seen_by}

pub returns-then-is_empty : goal.returns-then-is_empty
returns-then-is_empty c =
    let cs = changes_up_to (entries c.args.events.now.store.now) Event c.args.state in
    let none : c.args.order.now ≡ [] = c.is_empty.ensures.0 c.if-is_empty.true in
    IfOk-weaker c.found_among.result _ _ (λ v is. is ∙ result_uncompared (seen_by c.args.sight.now) c.args.order.now cs c.args.numbers.now none) c.found_among.ensures

pub returns : goal.returns
returns c =
    let cs = changes_up_to (entries c.args.events.now.store.now) Event c.args.state in
    let order = c.args.order.now in
    let matches = c.in_ok-matches.ensures in
    let numbers = c.deref-2.ensures.value ∙ matches.numbers in
    let ordered = c.deref-3.ensures.value ∙ c.items.ensures ∙ c.in_ok-places.ensures.places ∙ ap (places order) (c.deref.ensures.value ∙ matches.items) in
    IfOk-weaker c.numbers_at.result _ _
    (λ v is. is ∙ ap₂ numbers_at numbers ordered ∙ result_compared (seen_by c.args.sight.now) order cs c.args.numbers.now)
    c.numbers_at.ensures
