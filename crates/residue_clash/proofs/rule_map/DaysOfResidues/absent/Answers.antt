-- Why the residues are those of days that aren't given.
use Rattle.std.proofs.Common.{rules, FitsSigned, w64}
use Rattle.std.proofs.lemmas.Int.{to_z-of_z}
use Rattle.residue_clash.proofs.rule_map.DaysOfResidues.absent.Goals as goal

pub returns-clause-absent : goal.returns-clause-absent
returns-clause-absent c =
    let f : FitsSigned w64 c.from.result = search rules in
    let u = rw c.from.ensures at (simp to_z-of_z at c.ungiven_days.ensures.ungiven) in
    λ i lt. u i lt
