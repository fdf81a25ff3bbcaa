-- Whole numbers in a row, through which one looks for those that pass a test: `find` gives the least, `filter` all of them.
use Rattle.std.specs.Prelude.{ℕ, zero, suc, ◌^◌, ℤ, pos, ◌+ℤ◌, ◌-ℤ◌, List, [], ◌∷◌}

-- so many numbers from one on, rising
unfoldable pub numbers_from : ℤ → ℕ → List ℤ
numbers_from n zero = []
numbers_from n (suc k) = n ∷ numbers_from (n +ℤ pos 1) k

-- the wall seconds from 2 ^ 57 before one to as many after it, which is more than 4,000,000,000 years
unfoldable pub seconds_around : ℤ → List ℤ
seconds_around w = numbers_from (w -ℤ pos (2 ^ 57)) (2 ^ 58)
