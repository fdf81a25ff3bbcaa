use Rattle.object_log.proofs.PutLemmas.{told_from}
use Rattle.object_log.proofs.log.ObjectLog.get_at.Goals as goal

pub loop-place-init : goal.loop-place-init
loop-place-init g c = let t = c.args.self.now in told_from t.told.items t.first c.args.k c.args.id t.window.pasts.items c.requires.known t.kept
