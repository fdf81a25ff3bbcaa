-- Why the bits below the lowest one are zeros.
use Rattle.std.proofs.Common.{rules, w64, arith}
use Rattle.std.proofs.lemmas.Nat.Bits.{bit_at-trailing_zeros}
use Rattle.residue_solve.proofs.residue_map.lowest.Goals as goal

pub returns-clause-zeros : goal.returns-clause-zeros
returns-clause-zeros c = (bit_at-trailing_zeros w64 c.args.word (omega arith) (search rules)).2
