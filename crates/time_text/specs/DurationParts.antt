-- The parts of a Duration, one behind the other as they are read.
use Rattle.std.specs.Prelude.{ℕ, List, [], ◌∷◌, ◌+◌, ◌*◌, ◌==◌, ◌&&◌, ◌||◌, Bool, Option, Some, None, drop, take, length, nat_le, option_map, slice_index, if◌then◌else◌}
use Rattle.std.specs.Char.{is_ascii_digit}
use Rattle.std.specs.List.{prefix_len}
use Rattle.spec_json.specs.Number.{value_of_digits}
use Rattle.spec_time.specs.LocalTimes.{seconds_of_clock}
use Rattle.spec_time.specs.declared.length.Length.{Length}
use Rattle.spec_time.specs.Durations.{length_of}

-- how many digits stand first
abbrev pub digits_first : List ℕ → ℕ
digits_first s = prefix_len is_ascii_digit s

-- a number of 1 to 9 digits stands first, and this letter behind it
unfoldable pub has_part : ℕ → List ℕ → Bool
has_part letter s = (nat_le 1 (digits_first s) && nat_le (digits_first s) 9) && (slice_index s (digits_first s) == letter)

-- that number, 0 where there is none
unfoldable pub amount : ℕ → List ℕ → ℕ
amount letter s = if has_part letter s then value_of_digits (take (digits_first s) s) else 0

-- what stands behind the letter; all, where there is no number
unfoldable pub behind_part : ℕ → List ℕ → List ℕ
behind_part letter s = if has_part letter s then drop (digits_first s + 1) s else s

-- `nH`, `nM` and `nS` in this order, at least one of them, and nothing behind
abbrev pub clock_in : List ℕ → Option ℕ
clock_in s =
    if ((has_part 72 s || has_part 77 (behind_part 72 s)) || has_part 83 (behind_part 77 (behind_part 72 s))) && (length (behind_part 83 (behind_part 77 (behind_part 72 s))) == 0)
    then Some (seconds_of_clock (amount 72 s) (amount 77 (behind_part 72 s)) (amount 83 (behind_part 77 (behind_part 72 s)))) else None

-- nothing, where a part stood before; or `T` and then hours, minutes and seconds
abbrev pub seconds_in : Bool → List ℕ → Option ℕ
seconds_in after_days [] = if after_days then Some 0 else None
seconds_in after_days (b ∷ bs) = if b == 84 then clock_in bs else None

-- `nW` and `nD` in this order, each of which may be left out, and then the seconds
abbrev pub parts_in : List ℕ → Option Length
parts_in s =
    option_map (length_of (7 * amount 87 s + amount 68 (behind_part 87 s))) (seconds_in (has_part 87 s || has_part 68 (behind_part 87 s)) (behind_part 68 (behind_part 87 s)))

-- all, behind `P`
abbrev pub duration_by_parts : List ℕ → Option Length
duration_by_parts [] = None
duration_by_parts (b ∷ bs) = if b == 80 then parts_in bs else None
