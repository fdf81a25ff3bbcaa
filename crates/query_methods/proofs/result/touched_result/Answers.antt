use Rattle.std.proofs.Common.{ap, filter, ◌∙◌}
use Rattle.std.proofs.lemmas.Result.{IfOk-weaker}
use Rattle.account_store.specs.Store.{entries}
use Rattle.spec_history.specs.Pages.{is_in}
use Rattle.query_methods.proofs.ResultLemmas.{touched_result}
use Rattle.query_methods.proofs.result.touched_result.Goals as goal
use Rattle.query_methods.specs.Sights.{seen_by}

pub returns : goal.returns
returns c =
    let kept = touched_result (seen_by c.args.sight.now) c.args.order.now (entries c.args.events.now.store.now) c.args.state c.args.touched.now c.requires.touched in
    IfOk-weaker c.result_among.result _ _ (λ v is. ap (filter (is_in c.args.touched.now)) is ∙ kept) c.result_among.ensures
