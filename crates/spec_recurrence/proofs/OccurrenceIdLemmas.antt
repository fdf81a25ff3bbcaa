-- A synthetic id that was written is read back.
use Rattle.std.proofs.Common.{◌≡◌, ◌<◌, ◌+◌, ◌-◌, ◌/◌, ◌%◌, ◌^◌, ◌==◌, ℕ, ℤ, suc, List, [], ◌∷◌, ◌++◌, true, Some, drop, take, length, nat_le, nat_lt, slice_index, unsigned_abs, arith, refl, ap, ◌∙◌}
use Rattle.std.specs.Prelude.{filter}
use Rattle.std.proofs.lemmas.Bool.Decides.{nat_tests}
use Rattle.std.proofs.lemmas.Str.Ascii.{IsAscii-cons, IsAscii-nil}
use Rattle.std.specs.Str.{IsAscii}
use Rattle.std.proofs.lemmas.List.{length-append}
use Rattle.std.proofs.Math.Seq.{take-append_seam}
use Rattle.spec_history.specs.ObjectId.{id_text, object_number}
use Rattle.spec_history.specs.declared.entry.Kind.TheVariants.{Event}
use Rattle.spec_recurrence.specs.OccurrenceIds.{IsIdReadBack, compact_in, compact_text, event_part, is_no_separator, occurrence_id_in, separated, time_part}
use Rattle.spec_time.specs.CivilDay.{day_of_month, month_of, year_of}
use Rattle.spec_time.specs.Forms.{two}
use Rattle.spec_time.specs.LocalTimes.{local_in, local_text}
use Rattle.spec_time.specs.Walls.{day_of_wall, is_in_years, second_of_wall}
use Rattle.time_text.proofs.DateLemmas.{day_in_month, four_digit_year, month_in_year}
use Rattle.time_text.proofs.NumberLemmas.{decimal_back}
use Rattle.time_text.proofs.WrittenLemmas.{read_back, small_year}
use Rattle.civil_days.proofs.WallLemmas.{second_small}

-- The time without its separators.

plain : (n : ℕ) → n < 10 → is_no_separator (48 + n) ≡ true
plain n h = grind (arith, nat_tests)

pair_kept : (n : ℕ) (xs : List ℕ) → n < 100 → filter is_no_separator (two n ++ xs) ≡ two n ++ filter is_no_separator xs
pair_kept n xs h = rw (plain (n / 10) (omega arith), plain (n % 10) (omega arith)) refl

abbrev written : ℕ → ℕ → ℕ → ℕ → ℕ → ℕ → ℕ → List ℕ
written a b m d h n s = two a ++ two b ++ 45 ∷ two m ++ 45 ∷ two d ++ 84 ∷ two h ++ 58 ∷ two n ++ 58 ∷ two s

abbrev compact : ℕ → ℕ → ℕ → ℕ → ℕ → ℕ → ℕ → List ℕ
compact a b m d h n s = two a ++ two b ++ two m ++ two d ++ 84 ∷ two h ++ two n ++ two s

date_kept : (a b m d : ℕ) (xs : List ℕ) → a < 100 → b < 100 → m < 100 → d < 100
    → filter is_no_separator (two a ++ two b ++ 45 ∷ two m ++ 45 ∷ two d ++ xs) ≡ two a ++ two b ++ two m ++ two d ++ filter is_no_separator xs
date_kept a b m d xs ha hb hm hd =
    pair_kept a (two b ++ 45 ∷ two m ++ 45 ∷ two d ++ xs) ha
    ∙ ap (λ ys. two a ++ ys) (pair_kept b (45 ∷ two m ++ 45 ∷ two d ++ xs) hb
    ∙ ap (λ ys. two b ++ ys) (pair_kept m (45 ∷ two d ++ xs) hm
    ∙ ap (λ ys. two m ++ ys) (pair_kept d xs hd)))

clock_kept : (h n s : ℕ) → h < 100 → n < 100 → s < 100
    → filter is_no_separator (84 ∷ two h ++ 58 ∷ two n ++ 58 ∷ two s) ≡ 84 ∷ two h ++ two n ++ two s
clock_kept h n s hh hn hs =
    ap (λ ys. 84 ∷ ys) (pair_kept h (58 ∷ two n ++ 58 ∷ two s) hh
    ∙ ap (λ ys. two h ++ ys) (pair_kept n (58 ∷ two s) hn
    ∙ ap (λ ys. two n ++ ys) (pair_kept s [] hs)))

all_kept : (a b m d h n s : ℕ) → a < 100 → b < 100 → m < 100 → d < 100 → h < 100 → n < 100 → s < 100
    → filter is_no_separator (written a b m d h n s) ≡ compact a b m d h n s
all_kept a b m d h n s ha hb hm hd hh hn hs =
    date_kept a b m d (84 ∷ two h ++ 58 ∷ two n ++ 58 ∷ two s) ha hb hm hd
    ∙ ap (λ ys. two a ++ two b ++ two m ++ two d ++ ys) (clock_kept h n s hh hn hs)

-- what holds of the text of numbers of two digits holds of a time that is written
by_fields : (w : ℤ) → is_in_years w ≡ true → (P : ℕ → ℕ → ℕ → ℕ → ℕ → ℕ → ℕ → Type 0)
    → ((a b m d h n s : ℕ) → a < 100 → b < 100 → m < 100 → d < 100 → h < 100 → n < 100 → s < 100 → P a b m d h n s)
    → (let day = day_of_wall w in let s = second_of_wall w in let y = unsigned_abs (year_of day) in
    P (y / 100) (y % 100) (month_of day) (day_of_month day) (s / 3600) (s / 60 % 60) (s % 60))
by_fields w h P holds =
    let day = day_of_wall w in let s = second_of_wall w in let y = unsigned_abs (year_of day) in
    let years = four_digit_year w h in
    let hs = second_small w in
    let ha : y / 100 < 100 = small_year (year_of day) years.0 years.1 in
    let hb : y % 100 < 100 = omega arith in
    let hm : month_of day < 100 = let b = month_in_year day in omega arith in
    let hd : day_of_month day < 100 = let b = day_in_month day in omega arith in
    let hh : s / 3600 < 100 = omega arith in
    let hn : s / 60 % 60 < 100 = omega arith in
    let hc : s % 60 < 100 = omega arith in
    holds (y / 100) (y % 100) (month_of day) (day_of_month day) (s / 3600) (s / 60 % 60) (s % 60) ha hb hm hd hh hn hc

compact_is : (w : ℤ) → is_in_years w ≡ true
    → (let day = day_of_wall w in let s = second_of_wall w in let y = unsigned_abs (year_of day) in
    compact_text w ≡ compact (y / 100) (y % 100) (month_of day) (day_of_month day) (s / 3600) (s / 60 % 60) (s % 60))
compact_is w h = by_fields w h (λ a b m d h n s. filter is_no_separator (written a b m d h n s) ≡ compact a b m d h n s) all_kept

-- A written time is ASCII.

two_is_ascii : (n : ℕ) (xs : List ℕ) → n < 100 → IsAscii xs → IsAscii (two n ++ xs)
two_is_ascii n xs h rest = IsAscii-cons (48 + n / 10) ((48 + n % 10) ∷ xs) (omega arith) (IsAscii-cons (48 + n % 10) xs (omega arith) rest)

written_is_ascii : (a b m d h n s : ℕ) → a < 100 → b < 100 → m < 100 → d < 100 → h < 100 → n < 100 → s < 100 → IsAscii (written a b m d h n s)
written_is_ascii a b m d h n s ha hb hm hd hh hn hs =
    let seconds : List ℕ = 58 ∷ two s in let minutes : List ℕ = 58 ∷ two n ++ seconds in let hours : List ℕ = 84 ∷ two h ++ minutes in
    let days : List ℕ = 45 ∷ two d ++ hours in let months : List ℕ = 45 ∷ two m ++ days in
    two_is_ascii a (two b ++ months) ha (two_is_ascii b months hb
    (IsAscii-cons 45 (two m ++ days) (omega arith) (two_is_ascii m days hm
    (IsAscii-cons 45 (two d ++ hours) (omega arith) (two_is_ascii d hours hd
    (IsAscii-cons 84 (two h ++ minutes) (omega arith) (two_is_ascii h minutes hh
    (IsAscii-cons 58 (two n ++ seconds) (omega arith) (two_is_ascii n seconds hn
    (IsAscii-cons 58 (two s) (omega arith) (two_is_ascii s [] hs IsAscii-nil)))))))))))

pub local_is_ascii : (w : ℤ) → is_in_years w ≡ true → IsAscii (local_text w)
local_is_ascii w h = by_fields w h (λ a b m d h n s. IsAscii (written a b m d h n s)) written_is_ascii

separated_is : (a b m d h n s : ℕ) → compact_in (compact a b m d h n s) ≡ local_in (written a b m d h n s)
unfolding separated
separated_is a b m d h n s = refl

compact_back : (w : ℤ) → is_in_years w ≡ true → compact_in (compact_text w) ≡ Some w
compact_back w h =
    let day = day_of_wall w in let s = second_of_wall w in let y = unsigned_abs (year_of day) in
    ap compact_in (compact_is w h)
    ∙ separated_is (y / 100) (y % 100) (month_of day) (day_of_month day) (s / 3600) (s / 60 % 60) (s % 60)
    ∙ (read_back w h).local

compact_length : (w : ℤ) → is_in_years w ≡ true → length (compact_text w) ≡ 15
compact_length w h = ap length (compact_is w h)

-- The id and the time behind it.

drop_behind : (xs : List ℕ) (y : ℕ) (ys : List ℕ) → drop (suc (length xs)) (xs ++ y ∷ ys) ≡ ys
drop_behind [] y ys = refl
drop_behind (x ∷ xs) y ys = drop_behind xs y ys

byte_between : (xs : List ℕ) (y : ℕ) (ys : List ℕ) → slice_index (xs ++ y ∷ ys) (length xs) ≡ y
byte_between [] y ys = refl
byte_between (x ∷ xs) y ys = byte_between xs y ys

long_enough : (xs ys : List ℕ) → length ys ≡ 15 → nat_le 16 (length (xs ++ 95 ∷ ys)) ≡ true
long_enough xs ys h = let l = length-append xs (95 ∷ ys) in grind (arith, nat_tests)

front_length : (xs ys : List ℕ) → length ys ≡ 15 → length (xs ++ 95 ∷ ys) - 16 ≡ length xs
front_length xs ys h = let l = length-append xs (95 ∷ ys) in omega arith

past_length : (xs ys : List ℕ) → length ys ≡ 15 → length (xs ++ 95 ∷ ys) - 15 ≡ suc (length xs)
past_length xs ys h = let l = length-append xs (95 ∷ ys) in omega arith

mark_is : (b : ℕ) → b ≡ 95 → (b == 95) ≡ true
mark_is b h = rw h refl

event_number : (n : ℕ) → 0 < n → n < 2 ^ 64 → object_number Event (id_text Event n) ≡ Some n
event_number n h small = let above : nat_lt 0 n ≡ true = grind (arith, nat_tests) in rw (decimal_back n small, above) refl

id_by_parts : (n : ℕ) (w : ℤ) (s : List ℕ) → nat_le 16 (length s) ≡ true → (slice_index s (length s - 16) == 95) ≡ true
    → object_number Event (event_part s) ≡ Some n → compact_in (time_part s) ≡ Some w → occurrence_id_in s ≡ Some (n, w)
id_by_parts n w s long mark number time = rw (long, mark, number, time) refl

pub id_back : (n : ℕ) (w : ℤ) → 0 < n → n < 2 ^ 64 → is_in_years w ≡ true → IsIdReadBack n w
id_back n w above small years =
    let xs = id_text Event n in let ys = compact_text w in let s = xs ++ 95 ∷ ys in
    let long = compact_length w years in
    id_by_parts n w s (long_enough xs ys long)
    (mark_is _ (ap (slice_index s) (front_length xs ys long) ∙ byte_between xs 95 ys))
    (ap (λ k. object_number Event (take k s)) (front_length xs ys long) ∙ ap (object_number Event) (take-append_seam xs (95 ∷ ys)) ∙ event_number n above small)
    (ap (λ k. compact_in (drop k s)) (past_length xs ys long) ∙ ap compact_in (drop_behind xs 95 ys) ∙ compact_back w years)
