-- The moments of a clock in memory.
use Rattle.std.specs.Prelude.{ℕ, ◌-◌, min, ℤ, pos, List, length}
use Rattle.std.specs.List.{slice_index_or}

-- the moment of the call of this number, from 0; from the last on it stays
abbrev pub moment_at : List ℤ → ℕ → ℤ
moment_at moments call = slice_index_or moments (min call (length moments - 1)) (pos 0)
