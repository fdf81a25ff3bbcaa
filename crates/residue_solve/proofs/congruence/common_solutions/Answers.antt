-- The solutions of both congruences are those of the second along the class of the first.
use Rattle.std.proofs.Common.{pos}
use Rattle.residue_solve.specs.Cong.{Solves}
use Rattle.residue_solve.proofs.JointLemmas.{no_common_solution, class_of_common_solutions}
use Rattle.residue_solve.proofs.congruence.common_solutions.Goals as goal

pub returns-in_err-class-clause-none : goal.returns-in_err-class-clause-none
returns-in_err-class-clause-none c = rw c.from_residual.ensures (λ q h. c.in_err-class.ensures.none q h.0)

pub returns-in_err-turns-clause-none : goal.returns-in_err-turns-clause-none
returns-in_err-turns-clause-none c =
    rw c.from_residual-in_err-turns.ensures
    (no_common_solution (Solves c.args.first) (Solves c.args.second) (Solves c.substituted.result) (pos c.in_ok-class.class.residue) (pos c.in_ok-class.class.modulus)
    c.in_ok-class.ensures.some c.substituted.ensures.same c.in_err-turns.ensures.none)

pub returns-clause-some : goal.returns-clause-some
returns-clause-some c =
    class_of_common_solutions (Solves c.args.first) (Solves c.args.second) (Solves c.substituted.result) (pos c.in_ok-class.class.residue) (pos c.in_ok-class.class.modulus)
    c.in_ok-class.ensures.some c.substituted.ensures.same (pos c.in_ok-turns.turns.residue) (pos c.in_ok-turns.turns.modulus) c.in_ok-turns.ensures.some
