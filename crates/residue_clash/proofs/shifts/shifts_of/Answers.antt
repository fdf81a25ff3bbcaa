-- Why occurrences overlap at these offsets alone.
use Rattle.std.proofs.Common.{arith}
use Rattle.std.proofs.lemmas.Int.{ints, clamps}
use Rattle.residue_clash.proofs.shifts.shifts_of.Goals as goal

pub invariant_of-result : goal.invariant_of-result
invariant_of-result c = let later = c.later_of.ensures in record { order_in = (later.a, later.least 17 (omega arith) (omega arith)) }

pub returns : goal.returns
returns c = λ k over.
    let later = c.later_of.ensures.b in
    (omega (arith, ints, clamps, over), omega (arith, ints, clamps, over, later))
