-- The months of a year begin one after another, and each of its days lies in one of them.
use Rattle.std.proofs.Common.{◌≡◌, ℕ, zero, suc, ◌+◌, ◌-◌, ◌<◌, ◌≤◌, inl, inr, Bool, true, false, if◌then◌else◌, arith, refl, ℤ}
use Rattle.std.specs.Prelude.{nat_le}
use Rattle.std.proofs.lemmas.Bool.{leb-true, leb-false, cases_lt, cases_order}
use Rattle.spec_time.specs.CivilDay.{month_length, days_through_month, last_begun}

pub month_length_bound : (y : ℤ) (m : ℕ) → month_length y m ≤ 31
unfolding month_length
month_length_bound y m = grind arith

pub days_through_month-next : (y : ℤ) (m : ℕ) → 1 ≤ m → days_through_month y m ≡ days_through_month y (m - 1) + month_length y m
unfolding days_through_month
days_through_month-next y zero h = absurd (omega arith)
days_through_month-next y (suc k) h = let e : suc k - 1 ≡ k = omega arith in rw e

pub days_through_month_mono : (y : ℤ) (k m : ℕ) → k ≤ m → days_through_month y k ≤ days_through_month y m
unfolding days_through_month
days_through_month_mono y k zero h = let e : k ≡ 0 = omega arith in rw e (omega arith)
days_through_month_mono y k (suc m) h =
    elim (cases_lt m k) [
      | inl last ↦ let e : k ≡ suc m = omega arith in rw e (omega arith)
      | inr earlier ↦ omega (arith, days_through_month_mono y k m earlier)
    ]

-- the day before which so many days of year y lie is in month m
abbrev pub IsInMonth : ℤ → ℕ → ℕ → Type 0
IsInMonth y days m = (1 ≤ m) × (days_through_month y (m - 1) ≤ days) × (days < days_through_month y m)

pub IsInMonth_only : (y : ℤ) (days k m : ℕ) → IsInMonth y days k → IsInMonth y days m → k ≡ m
IsInMonth_only y days k m h g =
    elim (cases_order k m) [
      | inl same ↦ same
      | inr (inl less) ↦ absurd (omega (arith, days_through_month_mono y k (m - 1) (omega arith)))
      | inr (inr more) ↦ absurd (omega (arith, days_through_month_mono y m (k - 1) (omega arith)))
    ]

last_by : (y : ℤ) (days k m : ℕ) (b : Bool) → nat_le (days_through_month y k) days ≡ b → days < days_through_month y (suc k) → (days < days_through_month y k → IsInMonth y days m × (m ≤ k)) → IsInMonth y days (if b then suc k else m) × ((if b then suc k else m) ≤ suc k)
last_by y days k m true e h earlier =
    let back : suc k - 1 ≡ k = omega arith in
    ((omega arith, rw back (leb-true _ _ e), h), omega arith)
last_by y days k m false e h earlier =
    let before = earlier (leb-false _ _ e) in
    (before.0, omega arith)

pub last_begun-in_month : (y : ℤ) (days k : ℕ) → days < days_through_month y k → IsInMonth y days (last_begun y days k) × (last_begun y days k ≤ k)
unfolding last_begun
last_begun-in_month y days zero h = absurd (unfold days_through_month in omega arith)
last_begun-in_month y days (suc k) h = last_by y days k _ _ refl h (last_begun-in_month y days k)
