use Rattle.std.proofs.Common.{◌≡◌, drop}
use Rattle.object_log.specs.Pasts.{had_before}
use Rattle.object_log.specs.Puts.{latest, latest_at}
use Rattle.object_log.proofs.log.ObjectLog.get_at.Given as goal

abbrev pub invariant-loop-place : goal.invariant-loop-place
invariant-loop-place g l = had_before (drop l.place l.self.window.pasts.items) l.fn.id (latest l.self.told.items l.fn.id) ≡ latest_at l.self.told.items l.fn.k l.fn.id
