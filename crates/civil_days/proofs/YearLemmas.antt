-- Years begin one after another, and each day lies in one of them.
use Rattle.std.proofs.Common.{◌≡◌, ℕ, zero, suc, ◌+◌, ◌*◌, ◌/◌, ◌≤◌, Bool, true, false, not, ◌&&◌, ◌||◌, cond, if◌then◌else◌, nat_eq, arith, refl, ℤ, pos, ◌+ℤ◌, ◌-ℤ◌, ◌*ℤ◌, ◌<ℤ◌, ◌≤ℤ◌}
use Rattle.std.specs.Prelude.{int_lt, unsigned_abs}
use Rattle.std.proofs.lemmas.Bool.{eqb-true, eqb-false}
use Rattle.std.proofs.lemmas.Int.{by_lt_z}
use Rattle.jiff_core.proofs.SignedLemmas.{one_part, signed_arith}
use Rattle.spec_time.specs.Floor.{floor_div, modulo}
use Rattle.spec_time.specs.CivilDay.{is_leap, month_length, days_through_month, days_before_year, day_number, year_of}

-- 1 in a leap year
abbrev pub leap_day : ℤ → ℕ
leap_day y = cond (is_leap y) 1 0

next_by : (y : ℤ) (a b c : Bool) → nat_eq (modulo y 4) 0 ≡ a → nat_eq (modulo y 100) 0 ≡ b → nat_eq (modulo y 400) 0 ≡ c → days_before_year (y +ℤ pos 1) ≡ days_before_year y +ℤ pos (365 + cond (a && (not b || c)) 1 0)
unfolding days_before_year
next_by y true true true d e f = omega (arith, signed_arith, eqb-true)
next_by y true true false d e f = omega (arith, signed_arith, eqb-true, eqb-false (modulo y 400) 0 f)
next_by y true false c d e f = omega (arith, signed_arith, eqb-true, eqb-false (modulo y 100) 0 e)
next_by y false b c d e f = omega (arith, signed_arith, eqb-false (modulo y 4) 0 d)

-- a year has 365 days, and a leap year one more
pub days_before_year-next : (y : ℤ) → days_before_year (y +ℤ pos 1) ≡ days_before_year y +ℤ pos (365 + leap_day y)
unfolding is_leap
days_before_year-next y = next_by y _ _ _ refl refl refl

year_sum : (b : Bool) → 31 + cond b 29 28 + 31 + 30 + 31 + 30 + 31 + 31 + 30 + 31 + 30 + 31 ≡ 365 + cond b 1 0
year_sum true = refl
year_sum false = refl

-- and so have its twelve months together
pub days_through_month-year : (y : ℤ) → days_through_month y 12 ≡ 365 + leap_day y
unfolding days_through_month month_length
days_through_month-year y = year_sum (is_leap y)

new_year-is : (y : ℤ) → day_number y 1 1 ≡ days_before_year y -ℤ pos 719162
unfolding day_number days_through_month
new_year-is y = omega (arith, signed_arith)

pub new_year-next : (y : ℤ) → day_number (y +ℤ pos 1) 1 1 ≡ day_number y 1 1 +ℤ pos (days_through_month y 12)
new_year-next y =
    omega (arith, signed_arith, new_year-is y, new_year-is (y +ℤ pos 1), days_before_year-next y, days_through_month-year y)

new_year-add : (y : ℤ) (k : ℕ) → day_number y 1 1 ≤ℤ day_number (y +ℤ pos k) 1 1
new_year-add y zero =
    let e : y +ℤ pos 0 ≡ y = omega (arith, signed_arith) in
    rw e (omega (arith, signed_arith))
new_year-add y (suc k) =
    let e : y +ℤ pos (suc k) ≡ y +ℤ pos k +ℤ pos 1 = omega (arith, signed_arith) in
    rw e (omega (arith, signed_arith, new_year-add y k, new_year-next (y +ℤ pos k)))

pub new_year_mono : (y z : ℤ) → y ≤ℤ z → day_number y 1 1 ≤ℤ day_number z 1 1
new_year_mono y z h =
    let k = unsigned_abs (z -ℤ y) in
    let e : z ≡ y +ℤ pos k = omega (arith, signed_arith, one_part (z -ℤ y)) in
    rw e (new_year-add y k)

-- day n lies in year y
abbrev pub IsInYear : ℤ → ℤ → Type 0
IsInYear n y = (day_number y 1 1 ≤ℤ n) × (n <ℤ day_number (y +ℤ pos 1) 1 1)

pub IsInYear_only : (n y z : ℤ) → IsInYear n y → IsInYear n z → y ≡ z
IsInYear_only n y z h k =
    by_lt_z y z (λ less. absurd (omega (arith, signed_arith, new_year_mono (y +ℤ pos 1) z (omega (arith, signed_arith))))) (λ not_less.
    by_lt_z z y (λ more. absurd (omega (arith, signed_arith, new_year_mono (z +ℤ pos 1) y (omega (arith, signed_arith))))) (λ not_more.
    omega (arith, signed_arith)))

-- the year that the mean length gives
mean_year : ℤ → ℤ
mean_year n = floor_div ((n +ℤ pos 719164) *ℤ pos 400) 146097

mean_year_from : (n : ℤ) → day_number (mean_year n) 1 1 ≤ℤ n
unfolding mean_year days_before_year
mean_year_from n = rw (new_year-is (mean_year n)) (omega (arith, signed_arith))

mean_year_until : (n : ℤ) → n <ℤ day_number (mean_year n +ℤ pos 1 +ℤ pos 1) 1 1
unfolding mean_year days_before_year
mean_year_until n = rw (new_year-is (mean_year n +ℤ pos 1 +ℤ pos 1)) (omega (arith, signed_arith))

year_by : (n y : ℤ) (b : Bool) → int_lt n (day_number (y +ℤ pos 1) 1 1) ≡ b → day_number y 1 1 ≤ℤ n → n <ℤ day_number (y +ℤ pos 1 +ℤ pos 1) 1 1 → IsInYear n (if b then y else y +ℤ pos 1)
year_by n y true e low high = (low, omega (arith, signed_arith))
year_by n y false e low high = (omega (arith, signed_arith), high)

pub year_of-in_year : (n : ℤ) → IsInYear n (year_of n)
unfolding year_of mean_year
year_of-in_year n = year_by n (mean_year n) _ refl (mean_year_from n) (mean_year_until n)

pub year_of_size : (n : ℤ) → unsigned_abs (year_of n) ≤ unsigned_abs n / 365 + 1970
unfolding days_before_year
year_of_size n =
    let y = year_of n in
    omega (arith, signed_arith, year_of-in_year n, new_year-is y, new_year-is (y +ℤ pos 1), one_part y, one_part n)

pub in_year_size : (n y : ℤ) → IsInYear n y → unsigned_abs n ≤ 366 * unsigned_abs y + 719528
unfolding days_before_year
in_year_size n y h =
    omega (arith, signed_arith, new_year-is y, new_year-is (y +ℤ pos 1), one_part y, one_part n)
