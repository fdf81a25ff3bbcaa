use Rattle.std.proofs.Common.{◌≡◌, filter, is_some, map, take}
use Rattle.object_log.proofs.log.ObjectLog.live_ids.Given as goal

abbrev pub invariant-loop-slot : goal.invariant-loop-slot
invariant-loop-slot g l = l.ids.items ≡ map (λ s. s.id) (filter (λ s. is_some s.object) (take l.slot-index l.slot-items))
