-- Local times and moments as texts (RFC 8984 sections 1.4.4 and 1.4.5, whose dates and times are those of RFC 3339).
use Rattle.std.specs.Prelude.{◌≤ℤ◌, ℕ, ℤ, pos, List, [], ◌∷◌, ◌++◌, ◌+◌, ◌*◌, ◌/◌, ◌%◌, ◌&&◌, Bool, Option, Some, None, option_and_then, option_map, codes, nat_le, nat_lt, unsigned_abs, if◌then◌else◌}
use Rattle.spec_time.specs.CivilDay.{day_number, day_of_month, month_length, month_of, year_of}
use Rattle.spec_time.specs.Forms.{fits_form, pair_at, two}
use Rattle.spec_time.specs.Walls.{day_of_wall, hour_seconds, second_of_wall, wall_at}

-- the calendar has this date (RFC 3339 section 5.7)
abbrev pub is_date : ℕ → ℕ → ℕ → Bool
is_date y m d = (nat_le 1 m && nat_le m 12) && (nat_le 1 d && nat_le d (month_length (pos y) m))

-- its day number, none where there is no such date
abbrev pub day_in : ℕ → ℕ → ℕ → Option ℤ
day_in y m d = if is_date y m d then Some (day_number (pos y) m d) else None

-- hours, minutes and seconds as seconds
abbrev pub seconds_of_clock : ℕ → ℕ → ℕ → ℕ
seconds_of_clock h m s = hour_seconds * h + 60 * m + s

-- the second of the day, none where there is no such time of day
abbrev pub second_in : ℕ → ℕ → ℕ → Option ℕ
second_in h m s = if (nat_lt h 24 && nat_lt m 60) && nat_lt s 60 then Some (seconds_of_clock h m s) else None

-- the wall second of both, where there are such
abbrev pub wall_of : Option ℤ → Option ℕ → Option ℤ
wall_of day second = option_and_then (λ d. option_map (λ s. wall_at d s) second) day

-- the year that the first four digits write
abbrev pub year_in : List ℕ → ℕ
year_in s = 100 * pair_at 0 s + pair_at 2 s

-- the wall second in `YYYY-MM-DDThh:mm:ss`, where it is one
abbrev pub spaced_wall : List ℕ → Option ℤ
spaced_wall s = wall_of (day_in (year_in s) (pair_at 5 s) (pair_at 8 s)) (second_in (pair_at 11 s) (pair_at 14 s) (pair_at 17 s))

-- the wall second that a LocalDateTime names, in the years 0000 to 9999
abbrev pub local_in : List ℕ → Option ℤ
local_in s = if fits_form (codes "0000-00-00T00:00:00") s then spaced_wall s else None

-- the moment that a UTCDate names, in seconds of UTC
abbrev pub utc_in : List ℕ → Option ℤ
utc_in s = if fits_form (codes "0000-00-00T00:00:00Z") s then spaced_wall s else None

-- the last year that four digits write
abbrev pub last_year : ℕ
last_year = 9999

-- the wall second lies in a year that four digits write
abbrev pub HasFourDigitYear : ℤ → Type 0
HasFourDigitYear w = (pos 0 ≤ℤ year_of (day_of_wall w)) × (year_of (day_of_wall w) ≤ℤ pos last_year)

-- the text of a date, and of a time of day
abbrev pub date_text : ℕ → ℕ → ℕ → List ℕ
date_text y m d = two (y / 100) ++ two (y % 100) ++ 45 ∷ two m ++ 45 ∷ two d

abbrev pub clock_text : ℕ → List ℕ
clock_text s = two (s / hour_seconds) ++ 58 ∷ two (s / 60 % 60) ++ 58 ∷ two (s % 60)

-- the LocalDateTime of a wall second
abbrev pub local_text : ℤ → List ℕ
local_text w =
    date_text (unsigned_abs (year_of (day_of_wall w))) (month_of (day_of_wall w)) (day_of_month (day_of_wall w)) ++ 84 ∷ clock_text (second_of_wall w)

-- the UTCDate of a moment
abbrev pub utc_text : ℤ → List ℕ
utc_text t = local_text t ++ 90 ∷ []
