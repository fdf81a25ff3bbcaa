-- The calendar repeats itself after 400 years, which have 146097 days.
use Rattle.std.proofs.Common.{◌≡◌, ℕ, zero, suc, ◌-◌, arith, refl, ℤ, pos, ◌+ℤ◌, ◌*ℤ◌}
use Rattle.jiff_core.proofs.SignedLemmas.{signed_arith}
use Rattle.spec_time.specs.Floor.{modulo}
use Rattle.spec_time.specs.CivilDay.{is_leap, month_length, days_through_month, days_before_year, day_number, weekday_of, IsDate, cycles_later}

pub days_before_year-cycle : (y q : ℤ) → days_before_year (y +ℤ q *ℤ pos 400) ≡ cycles_later (days_before_year y) q
unfolding days_before_year
days_before_year-cycle y q = omega (arith, signed_arith)

pub is_leap-cycle : (y q : ℤ) → is_leap (y +ℤ q *ℤ pos 400) ≡ is_leap y
unfolding is_leap
is_leap-cycle y q =
    let by_4 : modulo (y +ℤ q *ℤ pos 400) 4 ≡ modulo y 4 = omega (arith, signed_arith) in
    let by_100 : modulo (y +ℤ q *ℤ pos 400) 100 ≡ modulo y 100 = omega (arith, signed_arith) in
    let by_400 : modulo (y +ℤ q *ℤ pos 400) 400 ≡ modulo y 400 = omega (arith, signed_arith) in
    rw (by_4, by_100, by_400)

pub month_length-cycle : (y q : ℤ) (m : ℕ) → month_length (y +ℤ q *ℤ pos 400) m ≡ month_length y m
unfolding month_length
month_length-cycle y q m = rw (is_leap-cycle y q)

pub days_through_month-cycle : (y q : ℤ) (k : ℕ) → days_through_month (y +ℤ q *ℤ pos 400) k ≡ days_through_month y k
unfolding days_through_month
days_through_month-cycle y q zero = refl
days_through_month-cycle y q (suc k) = rw (days_through_month-cycle y q k, month_length-cycle y q (suc k))

pub IsDate-cycle : (y q : ℤ) (m d : ℕ) → IsDate y m d → IsDate (y +ℤ q *ℤ pos 400) m d
IsDate-cycle y q m d h = rw (month_length-cycle y q m) h

pub day_number-cycle : (y q : ℤ) (m d : ℕ) → day_number (y +ℤ q *ℤ pos 400) m d ≡ cycles_later (day_number y m d) q
unfolding day_number
day_number-cycle y q m d =
    omega (arith, signed_arith, days_before_year-cycle y q, days_through_month-cycle y q (m - 1))

pub weekday_of-cycle : (n q : ℤ) → weekday_of (cycles_later n q) ≡ weekday_of n
unfolding weekday_of
weekday_of-cycle n q = omega (arith, signed_arith)
