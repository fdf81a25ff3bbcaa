-- The least number of the class of all solutions is the least solution.
use Rattle.std.proofs.Common.{rules, FitsSigned}
use Rattle.std.specs.Int.{w128}
use Rattle.std.proofs.lemmas.Int.{to_z-of_z}
use Rattle.residue_solve.specs.Cong.{SolvesBoth}
use Rattle.residue_solve.specs.ResidueClass.{IsIn}
use Rattle.residue_solve.proofs.LeastLemmas.{IsLeastFrom-same}
use Rattle.residue_solve.proofs.congruence.least.Goals as goal

pub returns-clause-least : goal.returns-clause-least
returns-clause-least c =
    let fx : FitsSigned w128 c.next_from.result = search rules in
    let ff : FitsSigned w128 c.args.from = search rules in
    rw (to_z-of_z w128 c.next_from.result fx)
    (IsLeastFrom-same c.args.from c.next_from.result (SolvesBoth c.args.first c.args.second) (IsIn c.in_ok-solutions.solutions) c.in_ok-solutions.ensures.some (rw (to_z-of_z w128 c.args.from ff) at c.next_from.ensures.least))
