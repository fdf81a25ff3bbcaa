-- Whole numbers written out in decimal digits, without a sign or a leading zero.
use Rattle.std.specs.Prelude.{ℕ, ◌+◌, ◌-◌, ◌*◌, ◌^◌, ◌&&◌, Bool, List, Option, Some, None, decimal, fold, nat_lt, if◌then◌else◌}
use Rattle.std.specs.Str.{bytes_eq}

abbrev pub value_of_digits : List ℕ → ℕ
value_of_digits s = fold (λ n b. 10 * n + (b - 48)) 0 s

-- this text writes out this number, which is below 2^64
abbrev pub writes_out : List ℕ → ℕ → Bool
writes_out s n = nat_lt n (2 ^ 64) && bytes_eq (decimal n) s

-- the number below 2^64 that a text writes out
abbrev pub number_in : List ℕ → Option ℕ
number_in s = if writes_out s (value_of_digits s) then Some (value_of_digits s) else None
