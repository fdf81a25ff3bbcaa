-- Two digits that were written are read back, and so are dates and times of day.
use Rattle.std.proofs.Common.{◌≡◌, ◌<◌, ◌+◌, ◌-◌, ◌*◌, ◌/◌, ◌%◌, ◌≤ℤ◌, ℕ, ℤ, pos, negsuc, List, [], ◌∷◌, ◌++◌, Bool, true, false, Option, Some, None, codes, nat_lt, unsigned_abs, if◌then◌else◌, arith, refl, ap, ◌∙◌}
use Rattle.std.proofs.lemmas.Bool.Decides.{nat_tests}
use Rattle.std.specs.Char.{is_ascii_digit}
use Rattle.spec_time.specs.CivilDay.{IsDate, day_of_month, month_of, year_of}
use Rattle.civil_days.proofs.DateLemmas.{one_date}
use Rattle.jiff_core.proofs.SignedLemmas.{signed_arith}
use Rattle.spec_time.specs.Forms.{fits_form, fits_mark, two}
use Rattle.spec_time.specs.LocalTimes.{HasFourDigitYear, day_in, is_date, local_text, second_in, spaced_wall, utc_text, wall_of}
use Rattle.spec_time.specs.Walls.{day_of_wall, is_in_years, second_of_wall}
use Rattle.time_text.proofs.DateLemmas.{day_in_month, four_digit_year, month_in_year, test_of}
use Rattle.time_text.specs.ReadBack.{IsReadBack}
use Rattle.civil_days.proofs.WallLemmas.{wall_parts, second_small}

-- the text of seven numbers of two digits each, with what follows
abbrev pub written : ℕ → ℕ → ℕ → ℕ → ℕ → ℕ → ℕ → List ℕ → List ℕ
written a b m d h n s tail = two a ++ two b ++ 45 ∷ two m ++ 45 ∷ two d ++ 84 ∷ two h ++ 58 ∷ two n ++ 58 ∷ two s ++ tail

digit : (n : ℕ) → n < 10 → is_ascii_digit (48 + n) ≡ true
digit n h = grind (arith, nat_tests)

pub first_digit : (n : ℕ) → n < 100 → is_ascii_digit (48 + n / 10) ≡ true
first_digit n h = digit (n / 10) (omega arith)

pub last_digit : (n : ℕ) → is_ascii_digit (48 + n % 10) ≡ true
last_digit n = digit (n % 10) (omega arith)

pub pair_back : (n : ℕ) → n < 100 → 10 * (48 + n / 10 - 48) + (48 + n % 10 - 48) ≡ n
pair_back n h = omega arith

fits_local : (a b m d h n s : ℕ) → a < 100 → b < 100 → m < 100 → d < 100 → h < 100 → n < 100 → s < 100 → fits_form (codes "0000-00-00T00:00:00") (written a b m d h n s []) ≡ true
unfolding fits_mark
fits_local a b m d h n s ha hb hm hd hh hn hs =
    rw (first_digit a ha, last_digit a, first_digit b hb, last_digit b, first_digit m hm, last_digit m, first_digit d hd, last_digit d, first_digit h hh, last_digit h, first_digit n hn, last_digit n, first_digit s hs, last_digit s) refl

fits_utc : (a b m d h n s : ℕ) → a < 100 → b < 100 → m < 100 → d < 100 → h < 100 → n < 100 → s < 100 → fits_form (codes "0000-00-00T00:00:00Z") (written a b m d h n s (90 ∷ [])) ≡ true
unfolding fits_mark
fits_utc a b m d h n s ha hb hm hd hh hn hs =
    rw (first_digit a ha, last_digit a, first_digit b hb, last_digit b, first_digit m hm, last_digit m, first_digit d hd, last_digit d, first_digit h hh, last_digit h, first_digit n hn, last_digit n, first_digit s hs, last_digit s) refl

-- the wall second of such a text is that of its numbers
pub wall_back : (a b m d h n s : ℕ) (tail : List ℕ) → a < 100 → b < 100 → m < 100 → d < 100 → h < 100 → n < 100 → s < 100
    → spaced_wall (written a b m d h n s tail) ≡ wall_of (day_in (100 * a + b) m d) (second_in h n s)
wall_back a b m d h n s tail ha hb hm hd hh hn hs =
    rw (pair_back a ha, pair_back b hb, pair_back m hm, pair_back d hd, pair_back h hh, pair_back n hn, pair_back s hs) refl

year_parts : (y : ℕ) → 100 * (y / 100) + y % 100 ≡ y
year_parts y = omega arith

second_parts : (s : ℕ) → 3600 * (s / 3600) + 60 * (s / 60 % 60) + s % 60 ≡ s
second_parts s = omega arith

second_back : (s : ℕ) → s < 86400 → second_in (s / 3600) (s / 60 % 60) (s % 60) ≡ Some s
second_back s h =
    let hour : nat_lt (s / 3600) 24 ≡ true = grind (arith, nat_tests) in
    let minute : nat_lt (s / 60 % 60) 60 ≡ true = grind (arith, nat_tests) in
    let second : nat_lt (s % 60) 60 ≡ true = grind (arith, nat_tests) in
    rw (hour, minute, second) (ap Some (second_parts s))

whole_year : (z : ℤ) → pos 0 ≤ℤ z → pos (unsigned_abs z) ≡ z
whole_year (pos n) h = refl
whole_year (negsuc n) h = absurd (omega (arith, signed_arith))

day_back : (n : ℤ) → pos 0 ≤ℤ year_of n → day_in (unsigned_abs (year_of n)) (month_of n) (day_of_month n) ≡ Some n
day_back n h =
    let date = (one_date n).date in
    let year = whole_year (year_of n) h in
    let facts : IsDate (pos (unsigned_abs (year_of n))) (month_of n) (day_of_month n) = rw year date.0 in
    let is : is_date (unsigned_abs (year_of n)) (month_of n) (day_of_month n) ≡ true = test_of (unsigned_abs (year_of n)) (month_of n) (day_of_month n) facts in
    rw (is, year) (ap Some date.1)

pub small_year : (y : ℤ) → pos 0 ≤ℤ y → y ≤ℤ pos 9999 → unsigned_abs y / 100 < 100
small_year (pos n) least most = omega (arith, signed_arith)
small_year (negsuc n) least most = absurd (omega (arith, signed_arith))

wall_of_parts : (w : ℤ) → HasFourDigitYear w
    → (let day = day_of_wall w in let s = second_of_wall w in let y = unsigned_abs (year_of day) in
    wall_of (day_in (100 * (y / 100) + y % 100) (month_of day) (day_of_month day)) (second_in (s / 3600) (s / 60 % 60) (s % 60)) ≡ Some w)
wall_of_parts w h =
    let day = day_of_wall w in let s = second_of_wall w in
    rw (year_parts (unsigned_abs (year_of day)), day_back day h.0, second_back s (second_small w)) (ap Some (wall_parts w))

pub from_fits : (fits : Bool) (found : Option ℤ) (w : ℤ) → fits ≡ true → found ≡ Some w → (if fits then found else None) ≡ Some w
from_fits true found w e f = f
from_fits false found w e f = cc

read_back_by : (w : ℤ) → HasFourDigitYear w → IsReadBack w
read_back_by w h =
    let day = day_of_wall w in let s = second_of_wall w in let y = unsigned_abs (year_of day) in
    let hs = second_small w in
    let ha : y / 100 < 100 = small_year (year_of day) h.0 h.1 in
    let hb : y % 100 < 100 = omega arith in
    let hm : month_of day < 100 = let b = month_in_year day in omega arith in
    let hd : day_of_month day < 100 = let b = day_in_month day in omega arith in
    let hh : s / 3600 < 100 = omega arith in
    let hn : s / 60 % 60 < 100 = omega arith in
    let hc : s % 60 < 100 = omega arith in
    record {
      local = from_fits (fits_form (codes "0000-00-00T00:00:00") (local_text w)) (spaced_wall (local_text w)) w
          (fits_local (y / 100) (y % 100) (month_of day) (day_of_month day) (s / 3600) (s / 60 % 60) (s % 60) ha hb hm hd hh hn hc)
          (wall_back (y / 100) (y % 100) (month_of day) (day_of_month day) (s / 3600) (s / 60 % 60) (s % 60) [] ha hb hm hd hh hn hc ∙ wall_of_parts w h);
      utc = from_fits (fits_form (codes "0000-00-00T00:00:00Z") (utc_text w)) (spaced_wall (utc_text w)) w
          (fits_utc (y / 100) (y % 100) (month_of day) (day_of_month day) (s / 3600) (s / 60 % 60) (s % 60) ha hb hm hd hh hn hc)
          (wall_back (y / 100) (y % 100) (month_of day) (day_of_month day) (s / 3600) (s / 60 % 60) (s % 60) (90 ∷ []) ha hb hm hd hh hn hc ∙ wall_of_parts w h);
    }

pub read_back : (w : ℤ) → is_in_years w ≡ true → IsReadBack w
read_back w h = read_back_by w (four_digit_year w h)
