-- Dates by tests and dates by facts.
use Rattle.std.proofs.Common.{◌≡◌, ◌≤ℤ◌, ◌+◌, ◌*◌, ◌^◌, subst, unsigned_abs, ◌≤◌, ◌<◌, ℕ, ℤ, pos, negsuc, Bool, true, false, Option, Some, None, ◌&&◌, if◌then◌else◌, rules, arith, refl, ap}
use Rattle.std.proofs.lemmas.Bool.{and_from, and_parts}
use Rattle.std.proofs.lemmas.Bool.Decides.{nat_tests}
use Rattle.std.specs.Option.{SomeIff}
use Rattle.spec_time.specs.CivilDay.{IsDate, day_number, day_of_month, days_before_year, days_through_month, month_of, year_of}
use Rattle.civil_days.proofs.DateLemmas.{one_date, IsDateOf-in_year}
use Rattle.civil_days.proofs.MonthLemmas.{month_length_bound}
use Rattle.civil_days.proofs.YearLemmas.{new_year_mono, year_of-in_year}
use Rattle.std.proofs.lemmas.Int.{by_lt_z}
use Rattle.std.proofs.lemmas.Option.{same_Some}
use Rattle.std.specs.Prelude.{◌↔◌, int_le, ◌+ℤ◌, ◌-◌, nat_lt, List, [], ◌∷◌, IfSome}
use Rattle.jiff_core.proofs.SignedLemmas.{signed_arith}
use Rattle.spec_time.specs.Forms.{fits_mark, fits_marks, pair_at}
use Rattle.spec_time.specs.LocalTimes.{HasFourDigitYear, is_date, day_in, second_in, spaced_wall, wall_of, year_in}
use Rattle.spec_time.specs.Walls.{day_of_wall, is_in_years, wall_at}
use Rattle.std.specs.Char.{is_ascii_digit}
use Rattle.civil_days.proofs.Orders.{is_int_le}

pub facts_of : (y m d : ℕ) → is_date y m d ≡ true → IsDate (pos y) m d
facts_of y m d h = grind (arith, nat_tests)

pub test_of : (y m d : ℕ) → IsDate (pos y) m d → is_date y m d ≡ true
test_of y m d h = grind (arith, nat_tests)

no_date : (y m d : ℕ) → (IsDate (pos y) m d → ⊥) → (b : Bool) → is_date y m d ≡ b → None ≡ (if b then Some (day_number (pos y) m d) else None)
no_date y m d h true e = absurd (h (facts_of y m d e))
no_date y m d h false e = refl

pub day_in_is : (y m d : ℕ) (r : Option ℤ) → SomeIff r (IsDate (pos y) m d) (day_number (pos y) m d) → r ≡ day_in y m d
day_in_is y m d None h = no_date y m d h (is_date y m d) refl
day_in_is y m d (Some n) h = let is : is_date y m d ≡ true = test_of y m d h.0 in rw is (ap Some h.1)

pub no_month : (y m d : ℕ) → 12 < m → None ≡ day_in y m d
no_month y m d h = no_date y m d (λ f. absurd (grind arith)) (is_date y m d) refl

pub no_day : (y m d : ℕ) → 31 < d → None ≡ day_in y m d
no_day y m d h = no_date y m d (λ f. absurd (let b = month_length_bound (pos y) m in grind arith)) (is_date y m d) refl

pub month_in_year : (n : ℤ) → month_of n ≤ 12
month_in_year n = let h = (one_date n).date.0 in grind arith

pub day_in_month : (n : ℤ) → day_of_month n ≤ 31
day_in_month n = let h = (one_date n).date.0 in let b = month_length_bound (year_of n) (month_of n) in grind arith

first_new_year : day_number (pos 0) 1 1 ≡ negsuc 719527
unfolding day_number days_before_year days_through_month
first_new_year = refl

last_new_year : day_number (pos 10000) 1 1 ≡ pos 2932897
unfolding day_number days_before_year days_through_month
last_new_year = refl

-- the days of the years 0 to 9999
years_of_days : (n : ℤ) → ((negsuc 719527 ≤ℤ n) × (n ≤ℤ pos 2932896)) ↔ ((pos 0 ≤ℤ year_of n) × (year_of n ≤ℤ pos 9999))
years_of_days n = (
  (λ h. (
    by_lt_z (year_of n) (pos 0) (λ early. absurd (omega (arith, signed_arith, year_of-in_year n, new_year_mono (year_of n +ℤ pos 1) (pos 0) (omega (arith, signed_arith)), first_new_year, h))) (λ late. omega (arith, signed_arith)),
    by_lt_z (pos 9999) (year_of n) (λ late. absurd (omega (arith, signed_arith, year_of-in_year n, new_year_mono (pos 10000) (year_of n) (omega (arith, signed_arith)), last_new_year, h))) (λ early. omega (arith, signed_arith)),
  )),
  (λ h. (
    omega (arith, signed_arith, year_of-in_year n, new_year_mono (pos 0) (year_of n) h.0, first_new_year),
    omega (arith, signed_arith, year_of-in_year n, new_year_mono (year_of n +ℤ pos 1) (pos 10000) (omega (arith, signed_arith, h.1)), last_new_year),
  )),
)

days_of_walls : (w : ℤ) → is_in_years w ≡ true ↔ ((negsuc 719527 ≤ℤ day_of_wall w) × (day_of_wall w ≤ℤ pos 2932896))
days_of_walls w = (
  (λ h. let p = and_parts (int_le (negsuc 62167219199) w) (int_le w (pos 253402300799)) h in
      (omega (arith, signed_arith, p.0), omega (arith, signed_arith, p.1))),
  (λ h. and_from (int_le (negsuc 62167219199) w) (int_le w (pos 253402300799))
      (is_int_le (negsuc 62167219199) w (omega (arith, signed_arith, h.0))) (is_int_le w (pos 253402300799) (omega (arith, signed_arith, h.1)))),
)

pub four_digits : (w : ℤ) → is_in_years w ≡ true ↔ HasFourDigitYear w
four_digits w = (
  (λ h. (years_of_days (day_of_wall w)).0 ((days_of_walls w).0 h)),
  (λ h. (days_of_walls w).1 ((years_of_days (day_of_wall w)).1 h)),
)

pub four_digit_year : (w : ℤ) → is_in_years w ≡ true → HasFourDigitYear w
four_digit_year w h = (four_digits w).0 h

near_size : (n : ℤ) → negsuc 719527 ≤ℤ n → n ≤ℤ pos 2932896 → unsigned_abs n < 2 ^ 42
near_size (pos k) low high = omega (arith, signed_arith)
near_size (negsuc k) low high = omega (arith, signed_arith)

pub day_size : (w : ℤ) → is_in_years w ≡ true → unsigned_abs (day_of_wall w) < 2 ^ 42
day_size w h = let d = (days_of_walls w).0 h in near_size (day_of_wall w) d.0 d.1

digit_bound : (b : ℕ) → is_ascii_digit b ≡ true → b - 48 ≤ 9
digit_bound b h = grind (arith, nat_tests)

four_by : (marks s : List ℕ) → fits_marks (48 ∷ 48 ∷ 48 ∷ 48 ∷ marks) s ≡ true → year_in s ≤ 9999
unfolding fits_mark
four_by marks [] h = cc
four_by marks (a ∷ []) h = absurd (grind (arith, nat_tests))
four_by marks (a ∷ b ∷ []) h = absurd (grind (arith, nat_tests))
four_by marks (a ∷ b ∷ c ∷ []) h = absurd (grind (arith, nat_tests))
four_by marks (a ∷ b ∷ c ∷ d ∷ rest) h =
    let p = and_parts (is_ascii_digit a) _ h in
    let q = and_parts (is_ascii_digit b) _ p.1 in
    let r = and_parts (is_ascii_digit c) _ q.1 in
    let t = and_parts (is_ascii_digit d) _ r.1 in
    omega (arith, digit_bound a p.0, digit_bound b q.0, digit_bound c r.0, digit_bound d t.0)

day_in_years_by : (y m d : ℕ) (n : ℤ) (b : Bool) → y ≤ 9999 → is_date y m d ≡ b → (if b then Some (day_number (pos y) m d) else None) ≡ Some n → (negsuc 719527 ≤ℤ n) × (n ≤ℤ pos 2932896)
day_in_years_by y m d n true h t e =
    let is : day_number (pos y) m d ≡ n = same_Some _ _ e in
    let year = IsDateOf-in_year n (pos y) m d (facts_of y m d t, is) in (
      omega (arith, signed_arith, year.0, new_year_mono (pos 0) (pos y) (omega (arith, signed_arith)), first_new_year),
      omega (arith, signed_arith, year.1, new_year_mono (pos y +ℤ pos 1) (pos 10000) (omega (arith, signed_arith)), last_new_year),
    )
day_in_years_by y m d n false h t e = cc

day_in_years : (y m d : ℕ) (n : ℤ) → y ≤ 9999 → day_in y m d ≡ Some n → (negsuc 719527 ≤ℤ n) × (n ≤ℤ pos 2932896)
day_in_years y m d n h e = day_in_years_by y m d n (is_date y m d) h refl e

wall_in_years : (day : Option ℤ) (second : Option ℕ) (w : ℤ) → ((n : ℤ) → day ≡ Some n → (negsuc 719527 ≤ℤ n) × (n ≤ℤ pos 2932896)) → ((s : ℕ) → second ≡ Some s → s < 86400) → wall_of day second ≡ Some w → is_in_years w ≡ true
wall_in_years None second w dh sh e = cc
wall_in_years (Some n) None w dh sh e = cc
wall_in_years (Some n) (Some s) w dh sh e =
    let is : wall_at n s ≡ w = same_Some _ _ e in
    let b = dh n refl in
    let t = sh s refl in
    subst (λ v. is_in_years v ≡ true) is ((days_of_walls (wall_at n s)).1 (omega (arith, signed_arith, b.0, t), omega (arith, signed_arith, b.1, t)))

second_by : (h m s x : ℕ) (b : Bool) → ((nat_lt h 24 && nat_lt m 60) && nat_lt s 60) ≡ b → (if b then Some (3600 * h + 60 * m + s) else None) ≡ Some x → x < 86400
second_by h m s x true t e = let is : 3600 * h + 60 * m + s ≡ x = same_Some _ _ e in grind (arith, nat_tests)
second_by h m s x false t e = cc

if_some : {P : ℤ → Type 0} (o : Option ℤ) → ((w : ℤ) → o ≡ Some w → P w) → IfSome o P
if_some None f = search rules
if_some (Some w) f = f w refl

second_small : (h m s x : ℕ) → second_in h m s ≡ Some x → x < 86400
second_small h m s x e = second_by h m s x _ refl e

-- what stands in a form that begins with four digits lies in the years that four digits write
pub spaced_in_years : (marks s : List ℕ) → fits_marks (48 ∷ 48 ∷ 48 ∷ 48 ∷ marks) s ≡ true → IfSome (spaced_wall s) (λ w. is_in_years w ≡ true)
spaced_in_years marks s h = if_some (spaced_wall s) (λ w e. wall_in_years _ _ w (λ n f. day_in_years (year_in s) (pair_at 5 s) (pair_at 8 s) n (four_by marks s h) f) (λ x f. second_small (pair_at 11 s) (pair_at 14 s) (pair_at 17 s) x f) e)
