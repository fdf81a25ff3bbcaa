-- The products fit, and the new congruence on k is the old one on residue + k * modulus.
use Rattle.std.proofs.Common.{rules, pos, ◌*ℤ◌, ◌-ℤ◌, FitsSigned, w64, arith}
use Rattle.std.proofs.lemmas.Int.{ints, to_z-of_z}
use Rattle.residue_solve.proofs.JointLemmas.{substituted_lem, product_small}
use Rattle.residue_solve.proofs.congruence.substituted.Goals as goal

pub returns-clause-same : goal.returns-clause-same
returns-clause-same c k =
    let am = product_small c.args.c.a c.from.result (omega arith) (omega (arith, ints)) in
    let ar = product_small c.args.c.a c.from-2.result (omega arith) (omega (arith, ints)) in
    let fa : FitsSigned w64 c.args.c.a = search rules in
    let fb : FitsSigned w64 c.args.c.b = search rules in
    let fm : FitsSigned w64 c.from.result = search rules in
    let fr : FitsSigned w64 c.from-2.result = search rules in
    let fam : FitsSigned w64 (c.args.c.a *ℤ c.from.result) = omega (arith, ints) in
    let far : FitsSigned w64 (c.args.c.a *ℤ c.from-2.result) = omega (arith, ints) in
    let fbar : FitsSigned w64 (c.args.c.b -ℤ c.args.c.a *ℤ c.from-2.result) = omega (arith, ints) in
    simp to_z-of_z (rw (c.from.ensures, c.from-2.ensures) (substituted_lem (pos c.args.c.n) c.args.c.a c.args.c.b (pos c.args.class.residue) (pos c.args.class.modulus) k))
