use Rattle.std.proofs.Common.{ap, length, sym, ◌∙◌}
use Rattle.std.proofs.lemmas.List.FromFn.{length-range_with_len}
use Rattle.object_log.proofs.log.ObjectLog.created.Goals as goal

pub returns : goal.returns
returns g c = sym (ap length c.args.self.now.numbered ∙ length-range_with_len 1 c.args.self.now.slots.created)
