-- What solves a congruence, and the sizes that the solver takes.
use Rattle.std.specs.Prelude.{◌<◌, ◌≤◌, ◌^◌, ℤ, pos, ◌*ℤ◌, unsigned_abs}
use Rattle.residue_solve.specs.Congruence.{Congruent}
use Rattle.residue_solve.specs.declared.congruence.Cong.{Cong}

-- q solves a * q = b modulo n
abbrev pub Solves : Cong → ℤ → Type 0
Solves c q = Congruent (pos c.n) (c.a *ℤ q) c.b

-- one number solves both
abbrev pub SolvesBoth : Cong → Cong → ℤ → Type 0
SolvesBoth first second q = Solves first q × Solves second q

-- n is 1 to 1000, and a and b are below 2^40 in size
abbrev pub IsInRange : Cong → Type 0
IsInRange c = (0 < c.n) × (c.n ≤ 1000) × (unsigned_abs c.a < 2 ^ 40) × (unsigned_abs c.b < 2 ^ 40)
