-- The laws of the calendar: each day has exactly one date, which is the same a cycle later.
use Rattle.std.proofs.Common.{◌≡◌, ℕ, ◌+◌, ◌-◌, ◌*◌, ◌<◌, ◌≤◌, arith, refl, sym, ap, ◌∙◌, ℤ, pos, ◌+ℤ◌, ◌-ℤ◌, ◌*ℤ◌}
use Rattle.std.specs.Prelude.{unsigned_abs}
use Rattle.jiff_core.proofs.SignedLemmas.{one_part, signed_arith}
use Rattle.spec_time.specs.CivilDay.{days_through_month, day_number, IsDate, IsDateOf, year_of, days_into_year, month_of, day_of_month, HasOneDate, cycles_later, HasSameDateLater}
use Rattle.civil_days.proofs.CycleLemmas.{IsDate-cycle, day_number-cycle, weekday_of-cycle}
use Rattle.civil_days.proofs.YearLemmas.{IsInYear, IsInYear_only, new_year-next, year_of-in_year, in_year_size}
use Rattle.civil_days.proofs.MonthLemmas.{IsInMonth, IsInMonth_only, days_through_month-next, days_through_month_mono, last_begun-in_month}

-- the day number of a date by its place in the year
pub day_number-place : (y : ℤ) (m d : ℕ) → day_number y m d +ℤ pos 1 ≡ day_number y 1 1 +ℤ pos (days_through_month y (m - 1) + d)
unfolding day_number days_through_month
day_number-place y m d = omega (arith, signed_arith)

pub IsDateOf-in_year : (n y : ℤ) (m d : ℕ) → IsDateOf n y m d → IsInYear n y
IsDateOf-in_year n y m d h =
    let last = days_through_month-next y m h.0.0.0 in
    let within = days_through_month_mono y m 12 h.0.0.1 in
    (omega (arith, signed_arith, day_number-place y m d), omega (arith, signed_arith, day_number-place y m d, new_year-next y))

pub day_number_size : (y : ℤ) (m d : ℕ) → IsDate y m d → unsigned_abs (day_number y m d) ≤ 366 * unsigned_abs y + 719528
day_number_size y m d h = in_year_size (day_number y m d) y (IsDateOf-in_year (day_number y m d) y m d (h, refl))

pub days_into_year-is : (n : ℤ) → day_number (year_of n) 1 1 +ℤ pos (days_into_year n) ≡ n
unfolding days_into_year
days_into_year-is n =
    omega (arith, signed_arith, one_part (n -ℤ day_number (year_of n) 1 1), year_of-in_year n)

pub days_into_year_bound : (n : ℤ) → days_into_year n < days_through_month (year_of n) 12
days_into_year_bound n =
    omega (arith, signed_arith, days_into_year-is n, year_of-in_year n, new_year-next (year_of n))

month_of-in_month : (n : ℤ) → IsInMonth (year_of n) (days_into_year n) (month_of n) × (month_of n ≤ 12)
unfolding month_of
month_of-in_month n = last_begun-in_month (year_of n) (days_into_year n) 12 (days_into_year_bound n)

date_of : (n : ℤ) → IsDateOf n (year_of n) (month_of n) (day_of_month n)
unfolding day_of_month
date_of n =
    let y = year_of n in
    let month = month_of-in_month n in
    let d = days_into_year n + 1 - days_through_month y (month_of n - 1) in (
      ((month.0.0, month.1), (omega arith, omega (arith, days_through_month-next y (month_of n) month.0.0))),
      omega (arith, signed_arith, day_number-place y (month_of n) d, days_into_year-is n),
    )

only_in_year : (n : ℤ) (m d : ℕ) → IsDateOf n (year_of n) m d → (m ≡ month_of n) × (d ≡ day_of_month n)
unfolding day_of_month
only_in_year n m d h =
    let y = year_of n in
    let place : days_into_year n + 1 ≡ days_through_month y (m - 1) + d =
    omega (arith, signed_arith, day_number-place y m d, days_into_year-is n) in
    let next = days_through_month-next y m h.0.0.0 in
    let month : m ≡ month_of n =
    IsInMonth_only y (days_into_year n) m (month_of n) (h.0.0.0, omega arith, omega arith) (month_of-in_month n).0 in
    (month, rw (← month) (omega arith))

pub one_date : (n : ℤ) → HasOneDate n
one_date n = record {
  date = date_of n;
  only = λ y m d h.
      let year = IsInYear_only n y (year_of n) (IsDateOf-in_year n y m d h) (year_of-in_year n) in
      let rest = only_in_year n m d (rw year at h) in
      (year, rest.0, rest.1);
}

pub IsDateOf-cycle : (n q y : ℤ) (m d : ℕ) → IsDateOf n y m d → IsDateOf (cycles_later n q) (y +ℤ q *ℤ pos 400) m d
IsDateOf-cycle n q y m d h =
    (IsDate-cycle y q m d h.0, day_number-cycle y q m d ∙ ap (λ x. cycles_later x q) h.1)

pub same_date_later : (n q : ℤ) → HasSameDateLater n q
same_date_later n q =
    let later = IsDateOf-cycle n q (year_of n) (month_of n) (day_of_month n) (one_date n).date in
    let same = (one_date (cycles_later n q)).only (year_of n +ℤ q *ℤ pos 400) (month_of n) (day_of_month n) later in
    record { year = sym same.0; month = sym same.1; day = sym same.2; weekday = weekday_of-cycle n q }
