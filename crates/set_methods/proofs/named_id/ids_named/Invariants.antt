use Rattle.std.proofs.Common.{◌≡◌, ◌++◌, ◌∷◌, [], drop, fold, if◌then◌else◌}
use Rattle.cal_model.specs.CreatedIds.{resolved_id}
use Rattle.cal_model.specs.Sets.{ids_named, names_id}
use Rattle.set_methods.proofs.named_id.ids_named.Given as goal

abbrev pub invariant-loop-text : goal.invariant-loop-text
invariant-loop-text l =
    fold (λ found t. if names_id found (resolved_id l.created t) then found else found ++ (t, resolved_id l.created t) ∷ []) l.named.items (drop l.text-index l.texts)
    ≡ ids_named l.created l.texts
