use Rattle.std.proofs.Common.{◌≡◌, fold, drop, map}
use Rattle.cal_model.specs.CreatedIds.{different, resolved_id, with_text}
use Rattle.set_methods.proofs.asked_ids.asked_ids.Given as goal

abbrev pub invariant-loop-id : goal.invariant-loop-id
invariant-loop-id l = fold with_text (map (λ t. t.now) l.asked.keys) (map (resolved_id l.created) (drop l.id-index l.ids)) ≡ different (map (resolved_id l.created) l.ids)
