-- Civil dates and day numbers: the Gregorian calendar of ISO 8601, on every whole year without end.
-- RFC 8984 (sections 1.4.4 and 1.4.5) takes its dates from RFC 3339, which has the years 0 to 9999 of it.
use Rattle.std.specs.Prelude.{◌≡◌, ℕ, zero, suc, ◌+◌, ◌-◌, Bool, not, ◌&&◌, ◌||◌, ◌==◌, nat_le, if◌then◌else◌, ℤ, pos, ◌+ℤ◌, ◌-ℤ◌, ◌*ℤ◌, int_lt, unsigned_abs}
use Rattle.std.specs.Int.{IsInRange}
use Rattle.spec_time.specs.Floor.{floor_div, modulo}

-- every fourth year, but of the centuries only every fourth (RFC 3339 appendix C)
unfoldable pub is_leap : ℤ → Bool
is_leap y = (modulo y 4 == 0) && (not (modulo y 100 == 0) || (modulo y 400 == 0))

-- the days of month m, where January is 1 (RFC 3339 section 5.7)
unfoldable pub month_length : ℤ → ℕ → ℕ
month_length y m =
    if m == 2 then (if is_leap y then 29 else 28)
    else (if (m == 4) || (m == 6) || (m == 9) || (m == 11) then 30 else 31)

-- the days of the first k months together
unfoldable pub days_through_month : ℤ → ℕ → ℕ
days_through_month y zero = 0
days_through_month y (suc k) = days_through_month y k + month_length y (suc k)

-- the days before 1 January of the year, counted from 1 January of year 1
unfoldable pub days_before_year : ℤ → ℤ
days_before_year y =
    pos 365 *ℤ (y -ℤ pos 1) +ℤ floor_div (y -ℤ pos 1) 4 -ℤ floor_div (y -ℤ pos 1) 100 +ℤ floor_div (y -ℤ pos 1) 400

-- the calendar has this date (RFC 3339 section 5.7)
abbrev pub IsDate : ℤ → ℕ → ℕ → Type 0
IsDate y m d = IsInRange 1 12 m × IsInRange 1 (month_length y m) d

-- the day number of a date, where 1970-01-01 is 0
unfoldable pub day_number : ℤ → ℕ → ℕ → ℤ
day_number y m d = days_before_year y +ℤ pos (days_through_month y (m - 1) + d) -ℤ pos 719163

-- the day of the week, from 0 for Monday: "mo" to "su" of RFC 8984 section 4.3.3
unfoldable pub weekday_of : ℤ → ℕ
weekday_of n = modulo (n +ℤ pos 3) 7

-- The date of a day number.

-- the year: what the mean length of 146097 / 400 days gives is the year, or the one before it
unfoldable pub year_of : ℤ → ℤ
year_of n =
    let y : ℤ = floor_div ((n +ℤ pos 719164) *ℤ pos 400) 146097 in
    if int_lt n (day_number (y +ℤ pos 1) 1 1) then y else y +ℤ pos 1

-- how many days of its year lie before it
unfoldable pub days_into_year : ℤ → ℕ
days_into_year n = unsigned_abs (n -ℤ day_number (year_of n) 1 1)

-- of the first k months of a year the last that has begun after that many days
unfoldable pub last_begun : ℤ → ℕ → ℕ → ℕ
last_begun y days zero = 0
last_begun y days (suc k) = if nat_le (days_through_month y k) days then suc k else last_begun y days k

-- the month, where January is 1
unfoldable pub month_of : ℤ → ℕ
month_of n = last_begun (year_of n) (days_into_year n) 12

-- the day of the month, from 1
unfoldable pub day_of_month : ℤ → ℕ
day_of_month n = days_into_year n + 1 - days_through_month (year_of n) (month_of n - 1)

-- The laws of the calendar.

-- this is a date, and its day number is n
abbrev pub IsDateOf : ℤ → ℤ → ℕ → ℕ → Type 0
IsDateOf n y m d = IsDate y m d × (day_number y m d ≡ n)

-- a day number has a date, and no other
pub record HasOneDate (n : ℤ) : Type 0 where
  pub date : IsDateOf n (year_of n) (month_of n) (day_of_month n)
  pub only : (y : ℤ) (m d : ℕ) → IsDateOf n y m d → (y ≡ year_of n) × (m ≡ month_of n) × (d ≡ day_of_month n)

-- the day as many cycles of 400 years later, each of 146097 days
abbrev pub cycles_later : ℤ → ℤ → ℤ
cycles_later n q = n +ℤ q *ℤ pos 146097

-- that day has the same date 400 years on for each cycle, and the same day of the week
pub record HasSameDateLater (n q : ℤ) : Type 0 where
  pub year : year_of (cycles_later n q) ≡ year_of n +ℤ q *ℤ pos 400
  pub month : month_of (cycles_later n q) ≡ month_of n
  pub day : day_of_month (cycles_later n q) ≡ day_of_month n
  pub weekday : weekday_of (cycles_later n q) ≡ weekday_of n
