-- The class of all solutions, or that there is none, from the gcd and its multiplier.
use Rattle.std.proofs.Common.{rules, FitsSigned, w64, arith, mod-lt}
use Rattle.std.proofs.lemmas.Nat.{le-div}
use Rattle.std.proofs.lemmas.Int.{to_z-of_z}
use Rattle.residue_solve.proofs.SolutionLemmas.{no_solution, class_of_solutions}
use Rattle.residue_solve.proofs.congruence.solutions.Goals as goal

pub returns-then-b-gcd-ne0-clause-none : goal.returns-then-b-gcd-ne0-clause-none
returns-then-b-gcd-ne0-clause-none c q =
    let fa : FitsSigned w64 c.args.c.a = search rules in
    let fb : FitsSigned w64 c.args.c.b = search rules in
    no_solution c.args.c _ _ _ _ c.extended_gcd-gcd.ensures.range.0 (rw (to_z-of_z w64 c.args.c.a fa) at c.reduced-a.ensures.same) (rw (to_z-of_z w64 c.args.c.b fb) at c.reduced-b.ensures.same)
    c.extended_gcd-gcd.ensures.divides q c.if-b-gcd-ne0.true

pub returns-clause-some : goal.returns-clause-some
returns-clause-some c q =
    let fa : FitsSigned w64 c.args.c.a = search rules in
    let fb : FitsSigned w64 c.args.c.b = search rules in
    class_of_solutions c.args.c _ _ _ _ c.extended_gcd-gcd.ensures.range.0 (rw (to_z-of_z w64 c.args.c.a fa) at c.reduced-a.ensures.same) (rw (to_z-of_z w64 c.args.c.b fb) at c.reduced-b.ensures.same)
    c.extended_gcd-gcd.ensures.divides q c.if-b-gcd-ne0.false

pub nonzero_rem-result : goal.nonzero_rem-result
nonzero_rem-result c = le-div 1 _ _ c.extended_gcd-gcd.ensures.range.0 (omega (arith, c.extended_gcd-gcd.ensures.range.1))

pub invariant_of-result : goal.invariant_of-result
invariant_of-result c = record { reduced = mod-lt _ (le-div 1 _ _ c.extended_gcd-gcd.ensures.range.0 (omega (arith, c.extended_gcd-gcd.ensures.range.1))) }
