use Rattle.std.proofs.Common.{◌≡◌, ap, filter, sym, ◌∙◌}
use Rattle.std.proofs.lemmas.Result.{IfOk-weaker}
use Rattle.account_store.specs.Earlier.{touched_ids}
use Rattle.account_store.specs.Store.{entries}
use Rattle.spec_history.specs.History.{changes_of}
use Rattle.spec_history.specs.Pages.{is_in}
use Rattle.spec_history.specs.declared.entry.Kind.TheVariants.{Event}
use Rattle.spec_queries.specs.Matching.{result_at}
use Rattle.query_methods.proofs.ResultLemmas.{delta_is}
use Rattle.query_methods.proofs.changed.delta_since.Goals as goal
use Rattle.query_methods.specs.Sights.{seen_by}

pub returns : goal.returns
returns c =
    let cs = changes_of (entries c.args.events.now.store.now) in
    let touched : c.deref-3.result.now ≡ touched_ids cs Event c.args.since = c.deref-3.ensures.value ∙ c.in_ok-touched.ensures in
    let lists : c.deref.result.now ≡ c.deref-3.result.now = c.deref.ensures.value ∙ sym c.deref-3.ensures.value in
    let before : filter (is_in c.deref-3.result.now) c.deref-2.result.now ≡ filter (is_in c.deref-3.result.now) (result_at (seen_by c.args.sight.now) c.args.order.now cs c.args.since) =
    ap (filter (is_in c.deref-3.result.now)) c.deref-2.ensures.value ∙ rw lists at c.in_ok-before.ensures in
    IfOk-weaker c.changes_of.result _ _
    (λ delta is. is ∙ delta_is (seen_by c.args.sight.now) c.args.order.now cs c.args.since c.deref-2.result.now c.args.now.now c.deref-3.result.now touched before c.requires.result)
    c.changes_of.ensures
