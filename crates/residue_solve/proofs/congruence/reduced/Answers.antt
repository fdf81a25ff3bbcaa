-- A number agrees with its remainder.
use Rattle.std.proofs.Common.{rules, ◌≡◌, pos, arith, FitsSigned, w64, to_z, of_z, ap, ◌∙◌, unsigned_abs}
use Rattle.std.specs.Int.{int_rem_euclid}
use Rattle.std.proofs.lemmas.Int.{ints, to_z-of_z}
use Rattle.residue_solve.proofs.CongruenceLemmas.{Congruent-rem_euclid}
use Rattle.residue_solve.proofs.congruence.reduced.Goals as goal

pub returns-clause-same : goal.returns-clause-same
returns-clause-same c =
    let fn : FitsSigned w64 c.from.result = search rules in
    let fr : FitsSigned w64 c.rem_euclid.result = search rules in
    let fa : FitsSigned w64 c.args.x = c.ranges.x in
    let v = simp to_z-of_z at c.rem_euclid.ensures.value in
    let e : pos (unsigned_abs (to_z w64 (of_z w64 c.rem_euclid.result))) ≡ int_rem_euclid c.args.x (pos c.args.n) =
    rw (to_z-of_z w64 c.rem_euclid.result fr) (omega (arith, ints, c.rem_euclid.ensures.lower_bound) ∙ v ∙ ap (int_rem_euclid c.args.x) c.from.ensures) in
    rw e (Congruent-rem_euclid c.args.x c.args.n c.requires)
