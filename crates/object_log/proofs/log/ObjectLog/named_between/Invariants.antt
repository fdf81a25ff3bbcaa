use Rattle.std.proofs.Common.{◌≡◌, drop, map, take}
use Rattle.object_log.specs.Puts.{said}
use Rattle.object_log.proofs.log.ObjectLog.named_between.Given as goal

abbrev pub invariant-loop-state : goal.invariant-loop-state
invariant-loop-state g l = l.ids.items ≡ map (λ m. m.id) (drop l.since (take l.state (said l.self.told.items)))
