use Rattle.std.proofs.Common.{◌≡◌, ◌++◌, ◌∷◌, ◌∙◌, IfOk, [], ap, append_assoc, subst}
use Rattle.cal_model.specs.EventObject.{named_uuid}
use Rattle.spec_history.specs.ObjectId.{id_text}
use Rattle.spec_history.specs.declared.entry.Kind.TheVariants.{Event}
use Rattle.object_outcomes.proofs.uid.supplied_uid.Goals as goal

pub returns : goal.returns
returns c =
    let slash = c.in_ok-push_str.ensures.bytes ∙ ap (λ bs. bs ++ 47 ∷ []) (c.in_ok-name.ensures.ok ∙ c.as_str.ensures) in
    let id = c.as_str-3.ensures ∙ c.in_ok-object_id_text.ensures in
    let name : c.as_bytes.result.now ≡ c.args.account.now ++ 47 ∷ id_text Event c.args.number =
    c.as_bytes.ensures.value ∙ c.in_ok-push_str-2.ensures.bytes ∙ ap (λ bs. bs ++ c.as_str-3.result.now) slash
    ∙ ap (λ bs. (c.args.account.now ++ 47 ∷ []) ++ bs) id ∙ append_assoc c.args.account.now (47 ∷ []) (id_text Event c.args.number) in
    subst (λ bs. IfOk c.named_uuid.result (λ t. t ≡ named_uuid bs)) name c.named_uuid.ensures
