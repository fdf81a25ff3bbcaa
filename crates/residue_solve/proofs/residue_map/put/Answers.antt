-- Why the bit is set, and no other.
use Rattle.std.proofs.Common.{◌%◌, arith}
use Rattle.residue_solve.proofs.Bits.{one_bit, put_bit}
use Rattle.residue_solve.proofs.residue_map.put.Goals as goal

pub returns-then-is_in : goal.returns-then-is_in
returns-then-is_in c = put_bit c.args.words.now c.args.r _ c.args.is_in c.if-is_in.true c.requires.words c.requires.r (one_bit (c.args.r % 64) (omega arith)) c.requires.clear
