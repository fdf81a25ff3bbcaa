use Rattle.std.proofs.Common.{ap, sym, ◌∙◌}
use Rattle.std.proofs.lemmas.Result.{IfOk-weaker}
use Rattle.std.specs.Prelude.{option_and_then}
use Rattle.account_store.specs.Store.{entries}
use Rattle.cal_model.specs.Occurrences.{occurrence_numbered}
use Rattle.spec_history.specs.History.{changes_of}
use Rattle.spec_recurrence.specs.OccurrenceIds.{occurrence_id_in}
use Rattle.account_core.proofs.occurrences.event_occurrence.Goals as goal

pub returns-in-Some : goal.returns-in-Some
returns-in-Some c =
    let cs = changes_of (entries c.args.store.now) in
    let named = ap occurrence_id_in (sym (c.as_bytes.ensures.value ∙ c.as_str.ensures)) ∙ sym c.read_occurrence_id.ensures.value ∙ c.in-Some.is in
    IfOk-weaker c.occurrence_numbered.result _ _ (λ o is. is ∙ sym (ap (option_and_then (occurrence_numbered cs)) named)) c.occurrence_numbered.ensures

pub returns-in-None : goal.returns-in-None
returns-in-None c =
    let cs = changes_of (entries c.args.store.now) in
    let named = ap occurrence_id_in (sym (c.as_bytes.ensures.value ∙ c.as_str.ensures)) ∙ sym c.read_occurrence_id.ensures.value ∙ c.in-None.is in
    sym (ap (option_and_then (occurrence_numbered cs)) named)
