-- The dates of `jiff`, moved by whole cycles, are the dates of the calendar.
use Rattle.std.proofs.Common.{◌≡◌, ℕ, zero, suc, ◌+◌, ◌-◌, ◌≤◌, arith, refl, sym, ap, ◌∙◌, ℤ, pos, negsuc, neg_ℤ, ◌+ℤ◌, ◌*ℤ◌, ◌≤ℤ◌}
use Rattle.std.proofs.lemmas.Bool.Decides.{nat_tests}
use Rattle.jiff_core.specs.declared.civil.date.Date.{Date}
use Rattle.jiff_core.specs.Date.{epoch_day}
use Rattle.jiff_core.specs.Calendar.{IsYear, IsDate as IsJiffDate, is_leap_year, days_in_month, days_of_years, days_of_months, day_count, days_from_civil}
use Rattle.jiff_core.proofs.SignedLemmas.{signed_arith}
use Rattle.jiff_core.proofs.MarchLemmas.{days_of_years-suc, days_of_years-march_days}
use Rattle.jiff_core.proofs.CalendarLemmas.{days_from_civil-day_count}
use Rattle.spec_time.specs.CivilDay.{is_leap, month_length, days_through_month, days_before_year, day_number, IsDate, IsDateOf, cycles_later}
use Rattle.civil_days.proofs.CycleLemmas.{month_length-cycle, IsDate-cycle, day_number-cycle}
use borrow.Author.Differences.{up, down}

is_leap-jiff : (y : ℤ) → is_leap_year y ≡ is_leap y
unfolding is_leap
is_leap-jiff (pos n) = refl
is_leap-jiff (negsuc n) = grind (arith, nat_tests)

month_length-jiff : (y : ℤ) (m : ℕ) → days_in_month y m ≡ month_length y m
unfolding month_length
month_length-jiff y m = rw (is_leap-jiff y)

days_through_month-jiff : (y : ℤ) (k : ℕ) → days_of_months y k ≡ days_through_month y k
unfolding days_through_month days_of_months
days_through_month-jiff y zero = refl
days_through_month-jiff y (suc k) = rw (days_through_month-jiff y k, month_length-jiff y (suc k))

day_count-from : (y : ℤ) (n m d : ℕ) → y +ℤ pos 10000 ≡ pos n → day_count y m d ≡ days_of_years n + (days_of_months y (m - 1) + d - 1)
unfolding day_count
day_count-from y n m d e = rw e

day_number-jiff : (y : ℤ) (m d : ℕ) → neg_ℤ (pos 9999) ≤ℤ y → 1 ≤ d → days_from_civil y m d ≡ day_number y m d
unfolding day_number days_before_year
day_number-jiff y m d low first =
    let k = up y + 9999 - down y in
    let e : y +ℤ pos 10000 ≡ pos (suc k) = omega (arith, signed_arith) in
    omega (arith, signed_arith, days_from_civil-day_count y m d, day_count-from y (suc k) m d e, days_of_years-suc k, days_of_years-march_days k, days_through_month-jiff y (m - 1))

-- a date of `jiff` as a date of this calendar
IsDateOf-jiff : (date : Date) → IsDateOf (epoch_day date) date.year date.month date.day
IsDateOf-jiff date = (
  (date.month_in, (date.day_in.0, rw (month_length-jiff date.year date.month) at date.day_in.1)),
  sym (day_number-jiff date.year date.month date.day date.year_in.0 date.day_in.0),
)

-- and as many cycles later
pub IsDateOf_later : (n y q : ℤ) (date : Date) → y ≡ date.year +ℤ q *ℤ pos 400 → n ≡ cycles_later (epoch_day date) q → IsDateOf n y date.month date.day
IsDateOf_later n y q date e f =
    let here = IsDateOf-jiff date in
    rw (e, f) (
      IsDate-cycle date.year q date.month date.day here.0,
      day_number-cycle date.year q date.month date.day ∙ ap (λ x. cycles_later x q) here.1,
    )

-- a date of this calendar is one of `jiff` where its year is moved into the years that `jiff` has
pub IsJiffDate_earlier : (y near q : ℤ) (m d : ℕ) → y ≡ near +ℤ q *ℤ pos 400 → IsYear near → IsDate y m d → IsJiffDate near (pos m) (pos d)
IsJiffDate_earlier y near q m d e year h =
    let length : month_length y m ≡ days_in_month near m = rw (e, month_length-cycle near q m, month_length-jiff near m) in
    (year, (omega (arith, signed_arith), omega (arith, signed_arith)), (omega (arith, signed_arith), omega (arith, signed_arith)))
