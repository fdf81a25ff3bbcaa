use Rattle.std.proofs.Common.{◌≡◌, ℕ, List, IfOk, subst}
use Rattle.spec_history.specs.ObjectId.{id_text}
use Rattle.spec_history.specs.declared.entry.Kind.TheVariants.{Event}
use Rattle.spec_json.specs.TreeData.{data_of}
use Rattle.spec_recurrence.specs.Recurrence.{occurrence_at}
use Rattle.spec_time.specs.LocalTimes.{local_text}
use Rattle.event_model.proofs.occurrence.occurrence.Goals as goal

pub returns : goal.returns
returns c =
    let is_at : List ℕ → List ℕ → List ℕ → Type 0 = λ id key event. IfOk c.occurrence_at.result (λ o. o ≡ occurrence_at id key event (data_of c.args.event.now) c.args.rid) in
    subst (λ id. is_at id (local_text c.args.rid) (id_text Event c.args.number)) c.in_ok-occurrence_id_text.ensures
    (subst (λ key. is_at c.in_ok-occurrence_id_text.field-0 key (id_text Event c.args.number)) c.in_ok-local_text.ensures
    (subst (λ event. is_at c.in_ok-occurrence_id_text.field-0 c.in_ok-local_text.field-0 event) c.in_ok-object_id_text.ensures c.occurrence_at.ensures))
