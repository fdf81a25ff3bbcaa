-- `from` and the remainder of the way to the residue make the least number of the class.
use Rattle.std.proofs.Common.{rules, ◌≡◌, pos, ◌+ℤ◌, ◌-ℤ◌, ◌≤ℤ◌, ◌<ℤ◌, arith, FitsSigned}
use Rattle.std.specs.Int.{w128, int_rem_euclid}
use Rattle.std.proofs.lemmas.Int.{ints, to_z-of_z}
use Rattle.residue_solve.proofs.CongruenceLemmas.{Congruent-rem_euclid}
use Rattle.residue_solve.proofs.LeastLemmas.{least_of_class}
use Rattle.residue_solve.proofs.residue_class.ResidueClass.next_from.Goals as goal

pub returns-clause-least : goal.returns-clause-least
returns-clause-least c =
    let f1 : FitsSigned w128 c.args.from = search rules in
    let f2 : FitsSigned w128 c.rem_euclid.result = search rules in
    let f3 : FitsSigned w128 c.from.result = search rules in
    let f4 : FitsSigned w128 c.from-2.result = search rules in
    let f5 : FitsSigned w128 (c.from.result -ℤ c.args.from) = omega (arith, ints) in
    let f6 : FitsSigned w128 (c.args.from +ℤ c.rem_euclid.result) = omega (arith, ints, c.rem_euclid.ensures.lower_bound, c.rem_euclid.ensures.upper_bound) in
    let v = simp to_z-of_z at c.rem_euclid.ensures.value in
    let low : pos 0 ≤ℤ c.rem_euclid.result = omega (arith, ints, c.rem_euclid.ensures.lower_bound) in
    let high : c.rem_euclid.result <ℤ pos c.args.self.modulus = omega (arith, ints, c.rem_euclid.ensures.upper_bound) in
    let e : c.rem_euclid.result ≡ int_rem_euclid (pos c.args.self.residue -ℤ c.args.from) (pos c.args.self.modulus) = rw c.from.ensures at (rw c.from-2.ensures at v) in
    let n = least_of_class c.args.self.modulus (pos c.args.self.residue) c.args.from c.rem_euclid.result low high (rw e (Congruent-rem_euclid (pos c.args.self.residue -ℤ c.args.from) c.args.self.modulus (omega arith))) in
    simp to_z-of_z n
