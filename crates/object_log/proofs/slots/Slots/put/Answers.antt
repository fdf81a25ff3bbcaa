use Rattle.std.proofs.Common.{suc, sym, arith}
use Rattle.object_log.proofs.SlotLemmas.{absent_above}
use Rattle.object_log.proofs.slots.Slots.put.Goals as goal

pub returns-then-id-self-clause-before : goal.returns-then-id-self-clause-before
returns-then-id-self-clause-before g c =
    let t = c.args.self.now in
    sym (absent_above 0 (suc t.created) c.args.id t.items.items t.rising (omega (arith, c.if-id-self.true)))
