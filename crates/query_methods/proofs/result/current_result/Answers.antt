use Rattle.std.proofs.Common.{ap, ◌∙◌}
use Rattle.std.proofs.lemmas.Result.{IfOk-weaker}
use Rattle.account_store.specs.Earlier.{changes_up_to}
use Rattle.account_store.specs.Store.{entries}
use Rattle.spec_history.specs.declared.entry.Kind.TheVariants.{Event}
use Rattle.query_methods.proofs.ResultLemmas.{result_now}
use Rattle.query_methods.proofs.result.current_result.Goals as goal
use Rattle.query_methods.specs.Among.{result_among}
use Rattle.query_methods.specs.Sights.{seen_by}

pub returns : goal.returns
returns c =
    let see = seen_by c.args.sight.now in
    let order = c.args.order.now in
    let es = entries c.args.events.now.store.now in
    let state = c.count-state.result in
    let listed = c.deref.ensures.value ∙ c.in_ok-numbers.ensures in
    let whole = ap (result_among see order (changes_up_to es Event state)) listed ∙ result_now see order es state c.count-state.ensures.exact in
    IfOk-weaker c.result_among.result _ _ (λ v is. is ∙ whole) c.result_among.ensures
