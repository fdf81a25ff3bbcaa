use Rattle.std.proofs.Common.{◌≡◌, suc, drop}
use Rattle.spec_snapshots.specs.Kept.{rise_within}
use Rattle.journal_keeper.proofs.floors.rise_to.Given as goal

abbrev pub invariant-loop-object : goal.invariant-loop-object
invariant-loop-object l = rise_within (suc l.last) l.most (drop l.object-index l.live) ≡ rise_within 1 l.most l.live
