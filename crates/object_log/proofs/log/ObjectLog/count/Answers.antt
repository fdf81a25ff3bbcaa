use Rattle.std.proofs.Common.{arith}
use Rattle.object_log.proofs.log.ObjectLog.count.Goals as goal

pub overflow_add-result : goal.overflow_add-result
overflow_add-result g c = omega (arith, c.len.ensures, c.args.self.now.window.pasts.ok.0, c.args.self.now.counted, c.args.self.now.few)
