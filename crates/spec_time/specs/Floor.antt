-- Division of whole numbers that rounds towards minus infinity, by a divisor above 0.
use Rattle.std.specs.Prelude.{ℕ, ℤ, pos, unsigned_abs}
use Rattle.std.specs.Int.{int_div_euclid, int_rem_euclid}

-- the quotient
abbrev pub floor_div : ℤ → ℕ → ℤ
floor_div z k = int_div_euclid z (pos k)

-- what it leaves, from 0 to k - 1
abbrev pub modulo : ℤ → ℕ → ℕ
modulo z k = unsigned_abs (int_rem_euclid z (pos k))
