-- The numbers of a residue class.
use Rattle.std.specs.Prelude.{ℤ, pos}
use Rattle.residue_solve.specs.Congruence.{Congruent}
use Rattle.residue_solve.specs.declared.residue_class.ResidueClass.{ResidueClass}

-- x is in the class
abbrev pub IsIn : ResidueClass → ℤ → Type 0
IsIn class x = Congruent (pos class.modulus) x (pos class.residue)
