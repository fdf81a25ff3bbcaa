use Rattle.std.proofs.Common.{ap, ap₂, ◌∙◌}
use Rattle.spec_history.specs.Pages.{is_in}
use Rattle.spec_queries.specs.QueryChanges.{with_places}
use Rattle.query_order.proofs.Splicing.{kept_same}
use Rattle.query_order.proofs.change.splice.Goals as goal

pub returns : goal.returns
returns c =
    let same = kept_same c.deref-2.result.now c.args.delta.now.removed c.args.old.now (ap is_in c.deref-2.ensures.value ∙ c.in_ok-removed.ensures.same ∙ ap is_in (c.deref.ensures.value ∙ c.items.ensures)) in
    c.new.ensures ∙ c.in_ok-put_in.ensures ∙ ap₂ with_places (c.deref-3.ensures.value ∙ c.in_ok-kept.ensures ∙ same) (c.deref-4.ensures.value ∙ c.items-2.ensures)
