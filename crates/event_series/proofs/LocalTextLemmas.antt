-- A LocalDateTime that was read is written back, so two that name one wall second are the same text.
use Rattle.std.proofs.Common.{◌≡◌, ◌≤◌, ◌<◌, ◌+◌, ◌-◌, ◌*◌, ◌/◌, ◌%◌, ◌==◌, ◌&&◌, ℕ, ℤ, pos, List, [], ◌∷◌, ◌++◌, Bool, true, false, Some, None, codes, length, nat_lt, unsigned_abs, if◌then◌else◌, arith, refl, sym, ap, ◌∙◌}
use Rattle.std.proofs.lemmas.Bool.{and_parts}
use Rattle.std.proofs.lemmas.Bool.Decides.{nat_tests}
use Rattle.std.proofs.lemmas.Option.{same_Some}
use Rattle.std.specs.Char.{is_ascii_digit}
use Rattle.civil_days.proofs.DateLemmas.{one_date}
use Rattle.jiff_core.proofs.SignedLemmas.{signed_arith}
use Rattle.spec_time.specs.CivilDay.{IsDate, day_number, day_of_month, month_of, year_of}
use Rattle.spec_time.specs.Forms.{fits_form, fits_mark, fits_marks, two}
use Rattle.spec_time.specs.LocalTimes.{clock_text, date_text, day_in, is_date, local_in, local_text, second_in, spaced_wall, wall_of}
use Rattle.spec_time.specs.Walls.{day_of_wall, second_of_wall, wall_at}
use Rattle.time_text.proofs.WrittenLemmas.{pair_back}

-- What fits the form is seven numbers of two digits each.

abbrev written : ℕ → ℕ → ℕ → ℕ → ℕ → ℕ → ℕ → List ℕ → List ℕ
written a b m d h n c tail = two a ++ two b ++ 45 ∷ two m ++ 45 ∷ two d ++ 84 ∷ two h ++ 58 ∷ two n ++ 58 ∷ two c ++ tail

record BeginsWithTwo (marks s : List ℕ) : Type 0 where
  number : ℕ
  small : number < 100
  rest : List ℕ
  is : s ≡ two number ++ rest
  fits : fits_marks marks rest ≡ true

record BeginsWith (mark : ℕ) (marks s : List ℕ) : Type 0 where
  rest : List ℕ
  is : s ≡ mark ∷ rest
  fits : fits_marks marks rest ≡ true

digit_least : (b : ℕ) → is_ascii_digit b ≡ true → 48 ≤ b
digit_least b h = grind (arith, nat_tests)

digit_most : (b : ℕ) → is_ascii_digit b ≡ true → b ≤ 57
digit_most b h = grind (arith, nat_tests)

begin_two : (marks s : List ℕ) → fits_marks (48 ∷ 48 ∷ marks) s ≡ true → BeginsWithTwo marks s
unfolding fits_mark
begin_two marks [] h = cc
begin_two marks (a ∷ []) h = absurd (grind (arith, nat_tests))
begin_two marks (a ∷ b ∷ bs) h =
    let p = and_parts (is_ascii_digit a) _ h in
    let q = and_parts (is_ascii_digit b) _ p.1 in
    let a_least = digit_least a p.0 in let a_most = digit_most a p.0 in
    let b_least = digit_least b q.0 in let b_most = digit_most b q.0 in
    let tens : 48 + (10 * (a - 48) + (b - 48)) / 10 ≡ a = omega arith in
    let ones : 48 + (10 * (a - 48) + (b - 48)) % 10 ≡ b = omega arith in
    record { number = 10 * (a - 48) + (b - 48); small = omega arith; rest = bs; is = rw (tens, ones) refl; fits = q.1 }

mark_is : (mark b : ℕ) → (b == mark) ≡ true → b ≡ mark
mark_is mark b h = grind (arith, nat_tests)

begin_with : (mark : ℕ) (marks s : List ℕ) → (mark == 48) ≡ false → fits_marks (mark ∷ marks) s ≡ true → BeginsWith mark marks s
unfolding fits_mark
begin_with mark marks [] e h = cc
begin_with mark marks (b ∷ bs) e h =
    let p = and_parts (b == mark) (fits_marks marks bs) (rw e at h) in
    record { rest = bs; is = ap (λ c. c ∷ bs) (mark_is mark b p.0); fits = p.1 }

record IsWritten (s : List ℕ) : Type 0 where
  a : ℕ
  b : ℕ
  m : ℕ
  d : ℕ
  h : ℕ
  n : ℕ
  c : ℕ
  a_small : a < 100
  b_small : b < 100
  m_small : m < 100
  d_small : d < 100
  h_small : h < 100
  n_small : n < 100
  c_small : c < 100
  tail : List ℕ
  is : s ≡ written a b m d h n c tail

after_two : (marks s t : List ℕ) (b : BeginsWithTwo marks s) → b.rest ≡ t → s ≡ two b.number ++ t
after_two marks s t b e = b.is ∙ ap (λ u. two b.number ++ u) e

after_mark : (mark : ℕ) (marks s t : List ℕ) (b : BeginsWith mark marks s) → b.rest ≡ t → s ≡ mark ∷ t
after_mark mark marks s t b e = b.is ∙ ap (λ u. mark ∷ u) e

fields_of : (s : List ℕ) → fits_marks (codes "0000-00-00T00:00:00") s ≡ true → IsWritten s
fields_of s fits =
    let a = begin_two (codes "00-00-00T00:00:00") s fits in
    let b = begin_two (codes "-00-00T00:00:00") a.rest a.fits in
    let b_end = begin_with 45 (codes "00-00T00:00:00") b.rest refl b.fits in
    let m = begin_two (codes "-00T00:00:00") b_end.rest b_end.fits in
    let m_end = begin_with 45 (codes "00T00:00:00") m.rest refl m.fits in
    let d = begin_two (codes "T00:00:00") m_end.rest m_end.fits in
    let d_end = begin_with 84 (codes "00:00:00") d.rest refl d.fits in
    let h = begin_two (codes ":00:00") d_end.rest d_end.fits in
    let h_end = begin_with 58 (codes "00:00") h.rest refl h.fits in
    let n = begin_two (codes ":00") h_end.rest h_end.fits in
    let n_end = begin_with 58 (codes "00") n.rest refl n.fits in
    let c = begin_two [] n_end.rest n_end.fits in
    record {
      a = a.number;
      b = b.number;
      m = m.number;
      d = d.number;
      h = h.number;
      n = n.number;
      c = c.number;
      a_small = a.small;
      b_small = b.small;
      m_small = m.small;
      d_small = d.small;
      h_small = h.small;
      n_small = n.small;
      c_small = c.small;
      tail = c.rest;
      is =
          after_two _ _ _ a (after_two _ _ _ b (after_mark _ _ _ _ b_end (after_two _ _ _ m (after_mark _ _ _ _ m_end
          (after_two _ _ _ d (after_mark _ _ _ _ d_end (after_two _ _ _ h (after_mark _ _ _ _ h_end
          (after_two _ _ _ n (after_mark _ _ _ _ n_end c.is))))))))));
    }

no_tail : (a b m d h n c : ℕ) (tail : List ℕ) → length (written a b m d h n c tail) ≡ 19 → tail ≡ []
no_tail a b m d h n c [] e = refl
no_tail a b m d h n c (t ∷ ts) e = absurd (omega arith)

-- The wall second of these numbers, and its text.

wall_back : (a b m d h n c : ℕ) (tail : List ℕ) → a < 100 → b < 100 → m < 100 → d < 100 → h < 100 → n < 100 → c < 100
    → spaced_wall (written a b m d h n c tail) ≡ wall_of (day_in (100 * a + b) m d) (second_in h n c)
wall_back a b m d h n c tail ha hb hm hd hh hn hc =
    rw (pair_back a ha, pair_back b hb, pair_back m hm, pair_back d hd, pair_back h hh, pair_back n hn, pair_back c hc) refl

record IsWallOf (y m d h n c : ℕ) (w : ℤ) : Type 0 where
  date : is_date y m d ≡ true
  clock : ((nat_lt h 24 && nat_lt n 60) && nat_lt c 60) ≡ true
  is : wall_at (day_number (pos y) m d) (3600 * h + 60 * n + c) ≡ w

wall_by : (y m d h n c : ℕ) (w : ℤ) (has_date has_clock : Bool) → is_date y m d ≡ has_date → ((nat_lt h 24 && nat_lt n 60) && nat_lt c 60) ≡ has_clock
    → wall_of (if has_date then Some (day_number (pos y) m d) else None) (if has_clock then Some (3600 * h + 60 * n + c) else None) ≡ Some w → IsWallOf y m d h n c w
wall_by y m d h n c w true true date clock e = record { date = date; clock = clock; is = same_Some _ _ e }
wall_by y m d h n c w true false date clock e = cc
wall_by y m d h n c w false true date clock e = cc
wall_by y m d h n c w false false date clock e = cc

facts_of : (y m d : ℕ) → is_date y m d ≡ true → IsDate (pos y) m d
facts_of y m d h = grind (arith, nat_tests)

clock_small : (h n c : ℕ) → ((nat_lt h 24 && nat_lt n 60) && nat_lt c 60) ≡ true → (h < 24) × (n < 60) × (c < 60)
clock_small h n c e = (grind (arith, nat_tests), grind (arith, nat_tests), grind (arith, nat_tests))

day_is : (day : ℤ) (second : ℕ) → second < 86400 → day_of_wall (wall_at day second) ≡ day
day_is day second h = omega (arith, signed_arith)

second_is : (day : ℤ) (second : ℕ) → second < 86400 → second_of_wall (wall_at day second) ≡ second
second_is day second h = omega (arith, signed_arith)

abbrev text_from : ℕ → ℕ → ℕ → ℕ → List ℕ
text_from y m d s = date_text y m d ++ 84 ∷ clock_text s

text_is : (a b m d h n c : ℕ) → b < 100 → n < 60 → c < 60 → written a b m d h n c [] ≡ text_from (100 * a + b) m d (3600 * h + 60 * n + c)
text_is a b m d h n c hb hn hc =
    let century : (100 * a + b) / 100 ≡ a = omega arith in
    let year : (100 * a + b) % 100 ≡ b = omega arith in
    let hour : (3600 * h + 60 * n + c) / 3600 ≡ h = omega arith in
    let minute : (3600 * h + 60 * n + c) / 60 % 60 ≡ n = omega arith in
    let second : (3600 * h + 60 * n + c) % 60 ≡ c = omega arith in
    rw (century, year, hour, minute, second) refl

text_at_day : (y m d s : ℕ) → is_date y m d ≡ true → text_from y m d s ≡ (let day = day_number (pos y) m d in text_from (unsigned_abs (year_of day)) (month_of day) (day_of_month day) s)
text_at_day y m d s date =
    let same = (one_date (day_number (pos y) m d)).only (pos y) m d (facts_of y m d date, refl) in
    rw (← same.0, ← same.1, ← same.2) refl

written_back : (a b m d h n c : ℕ) (w : ℤ) → b < 100 → IsWallOf (100 * a + b) m d h n c w → written a b m d h n c [] ≡ local_text w
written_back a b m d h n c w hb wall =
    let small = clock_small h n c wall.clock in
    let day : ℤ = day_number (pos (100 * a + b)) m d in
    let s : ℕ = 3600 * h + 60 * n + c in
    let bound : s < 86400 = omega arith in
    text_is a b m d h n c hb small.1 small.2
    ∙ text_at_day (100 * a + b) m d s wall.date
    ∙ sym (ap (λ x. text_from (unsigned_abs (year_of x)) (month_of x) (day_of_month x) (second_of_wall (wall_at day s))) (day_is day s bound)
    ∙ ap (λ x. text_from (unsigned_abs (year_of day)) (month_of day) (day_of_month day) x) (second_is day s bound))
    ∙ ap local_text wall.is

back_by_fields : (s : List ℕ) (w : ℤ) → IsWritten s → length s ≡ 19 → spaced_wall s ≡ Some w → s ≡ local_text w
back_by_fields s w f len e =
    let tail : f.tail ≡ [] = no_tail f.a f.b f.m f.d f.h f.n f.c f.tail (ap length (sym f.is) ∙ len) in
    let is : s ≡ written f.a f.b f.m f.d f.h f.n f.c [] = f.is ∙ ap (written f.a f.b f.m f.d f.h f.n f.c) tail in
    let wall = sym (wall_back f.a f.b f.m f.d f.h f.n f.c [] f.a_small f.b_small f.m_small f.d_small f.h_small f.n_small f.c_small) ∙ ap spaced_wall (sym is) ∙ e in
    is ∙ written_back f.a f.b f.m f.d f.h f.n f.c w f.b_small (wall_by (100 * f.a + f.b) f.m f.d f.h f.n f.c w _ _ refl refl wall)

long_as_form : (s : List ℕ) → (length s == 19) ≡ true → length s ≡ 19
long_as_form s h = mark_is 19 (length s) h

text_back_by : (s : List ℕ) (w : ℤ) (fits : Bool) → fits_form (codes "0000-00-00T00:00:00") s ≡ fits → (if fits then spaced_wall s else None) ≡ Some w → s ≡ local_text w
text_back_by s w true fits e =
    let p = and_parts (length s == 19) (fits_marks (codes "0000-00-00T00:00:00") s) fits in
    back_by_fields s w (fields_of s p.1) (long_as_form s p.0) e
text_back_by s w false fits e = cc

-- a text that names a wall second is its LocalDateTime
pub text_back : (s : List ℕ) (w : ℤ) → local_in s ≡ Some w → s ≡ local_text w
text_back s w e = text_back_by s w (fits_form (codes "0000-00-00T00:00:00") s) refl e
