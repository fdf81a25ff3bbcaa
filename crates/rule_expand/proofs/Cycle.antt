-- Matching, being kept and the ends of periods move with whole cycles of 146097 days.
use Rattle.std.proofs.Common.{◌≡◌, ℕ, zero, suc, ◌+◌, Bool, true, false, cond, refl, arith, ℤ, pos, ◌+ℤ◌, ◌-ℤ◌, ◌*ℤ◌, Option, Some, None, List, [], ◌∷◌, length}
use Rattle.std.specs.List.{list_any}
use Rattle.std.specs.Ordering.{int_eq}
use Rattle.std.proofs.lemmas.Bool.Decides.{Decides-int_eq}
use Rattle.spec_series.specs.declared.by_part.Skip.{Skip}
use Rattle.spec_series.specs.declared.by_part.Skip.TheVariants.{Omit, Backward, Forward}
use Rattle.jiff_core.proofs.SignedLemmas.{signed_arith}
use Rattle.spec_series.specs.Periods.{month_first, month_last, year_first, year_last, period_by, period_first, period_last}
use Rattle.spec_series.specs.Places.{count_days, at_least_zero, count_from, is_place, empty_or_any}
use Rattle.spec_series.specs.RuleSets.{counts_in_month, scope_first, scope_last, is_weekday, nth_matches, nday_matches, month_day_matches, month_matches, year_day_matches, day_matches, is_kept, is_beyond_month, is_overflow, is_moved, moved_from}
use Rattle.spec_time.specs.CivilDay.{month_length, weekday_of, year_of, month_of}
use Rattle.spec_series.specs.declared.rule.Rule.{Rule}
use Rattle.spec_series.specs.declared.by_part.NDay.{NDay}
use Rattle.spec_series.specs.declared.by_part.Freq.{Freq}
use Rattle.spec_series.specs.declared.by_part.Freq.TheVariants.{Daily, Weekly, Monthly, Yearly}
use Rattle.spec_json.proofs.Booleans.{same_truth}
use Rattle.civil_days.proofs.CycleLemmas.{month_length-cycle, day_number-cycle}
use Rattle.rule_expand.proofs.Dates.{at_cycle}

-- q cycles later
abbrev pub later : ℤ → ℤ → ℤ
later n q = n +ℤ q *ℤ pos 146097

pub weekday-cycle : (n q : ℤ) → weekday_of (later n q) ≡ weekday_of n
unfolding weekday_of
weekday-cycle n q = omega (arith, signed_arith)

pub month_first-cycle : (n q : ℤ) → month_first (later n q) ≡ later (month_first n) q
unfolding month_first
month_first-cycle n q =
    let a = at_cycle n q in
    rw (a.0, a.1) (day_number-cycle (year_of n) q (month_of n) 1)

pub month_last-cycle : (n q : ℤ) → month_last (later n q) ≡ later (month_last n) q
unfolding month_last
month_last-cycle n q =
    let a = at_cycle n q in
    rw (a.0, a.1, month_length-cycle (year_of n) q (month_of n)) (day_number-cycle (year_of n) q (month_of n) (month_length (year_of n) (month_of n)))

pub year_first-cycle : (n q : ℤ) → year_first (later n q) ≡ later (year_first n) q
unfolding year_first
year_first-cycle n q = rw (at_cycle n q).0 (day_number-cycle (year_of n) q 1 1)

pub year_last-cycle : (n q : ℤ) → year_last (later n q) ≡ later (year_last n) q
unfolding year_last
year_last-cycle n q = rw (at_cycle n q).0 (day_number-cycle (year_of n) q 12 31)

pub scope_first-cycle : (b : Bool) (n q : ℤ) → scope_first b (later n q) ≡ later (scope_first b n) q
scope_first-cycle true n q = month_first-cycle n q
scope_first-cycle false n q = year_first-cycle n q

pub scope_last-cycle : (b : Bool) (n q : ℤ) → scope_last b (later n q) ≡ later (scope_last b n) q
scope_last-cycle true n q = month_last-cycle n q
scope_last-cycle false n q = year_last-cycle n q

pub period_first-cycle : (f : Freq) (w : ℕ) (n q : ℤ) → period_first f w (later n q) ≡ later (period_first f w n) q
unfolding period_first
period_first-cycle Daily w n q = refl
period_first-cycle Weekly w n q = omega (arith, signed_arith)
period_first-cycle Monthly w n q = month_first-cycle n q
period_first-cycle Yearly w n q = year_first-cycle n q

pub period_last-cycle : (f : Freq) (w : ℕ) (n q : ℤ) → period_last f w (later n q) ≡ later (period_last f w n) q
unfolding period_last
period_last-cycle Daily w n q = refl
period_last-cycle Weekly w n q = omega (arith, signed_arith)
period_last-cycle Monthly w n q = month_last-cycle n q
period_last-cycle Yearly w n q = year_last-cycle n q

-- the number of a period grows with each cycle by as much as a cycle has periods
pub period-cycle : (f : Freq) (w : ℕ) (n q : ℤ) → period_by f w (later n q) ≡ period_by f w n +ℤ q *ℤ pos (elim f [ Daily ↦ 146097 | Weekly ↦ 20871 | Monthly ↦ 4800 | Yearly ↦ 400 ])
unfolding period_by
period-cycle Daily w n q = refl
period-cycle Weekly w n q = omega (arith, signed_arith)
period-cycle Monthly w n q = let a = at_cycle n q in rw (a.0, a.1) (omega (arith, signed_arith))
period-cycle Yearly w n q = (at_cycle n q).0

-- a test that has one answer at n and q cycles later
abbrev pub IsPeriodic : (ℤ → Bool) → Type 0
IsPeriodic p = (n q : ℤ) → p (later n q) ≡ p n

count_days-cycle : (p : ℤ → Bool) → IsPeriodic p → (first q : ℤ) (k : ℕ) → count_days p (later first q) k ≡ count_days p first k
unfolding count_days
count_days-cycle p h first q zero = refl
count_days-cycle p h first q (suc k) =
    let e : later first q +ℤ pos k ≡ later (first +ℤ pos k) q = omega (arith, signed_arith) in
    rw (count_days-cycle p h first q k, e, h (first +ℤ pos k) q)

pub count_from-cycle : (p : ℤ → Bool) → IsPeriodic p → (first last q : ℤ) → count_from p (later first q) (later last q) ≡ count_from p first last
count_from-cycle p h first last q =
    let e : later last q -ℤ later first q +ℤ pos 1 ≡ last -ℤ first +ℤ pos 1 = omega (arith, signed_arith) in
    rw e (count_days-cycle p h first q (at_least_zero (last -ℤ first +ℤ pos 1)))

pub is_weekday-cycle : (d : ℕ) → IsPeriodic (is_weekday d)
is_weekday-cycle d n q = rw (weekday-cycle n q)

pub list_any-same : {A : Type 0} (p r : A → Bool) → ((x : A) → p x ≡ r x) → (xs : List A) → list_any p xs ≡ list_any r xs
list_any-same p r h [] = refl
list_any-same p r h (x ∷ xs) = rw (h x, list_any-same p r h xs)

pub empty_or_any-same : {A : Type 0} (p r : A → Bool) → ((x : A) → p x ≡ r x) → (xs : List A) → empty_or_any p xs ≡ empty_or_any r xs
empty_or_any-same p r h [] = refl
empty_or_any-same p r h (x ∷ xs) = list_any-same p r h (x ∷ xs)

nth-cycle : (b : Bool) (n q : ℤ) (d : ℕ) (k : Option ℤ) → nth_matches b (later n q) d k ≡ nth_matches b n d k
unfolding nth_matches
nth-cycle b n q d None = refl
nth-cycle b n q d (Some k) =
    rw (scope_first-cycle b n q, scope_last-cycle b n q, count_from-cycle (is_weekday d) (is_weekday-cycle d) (scope_first b n) n q, count_from-cycle (is_weekday d) (is_weekday-cycle d) n (scope_last b n) q)

nday-cycle : (b : Bool) (n q : ℤ) (d : NDay) → nday_matches b (later n q) d ≡ nday_matches b n d
unfolding nday_matches
nday-cycle b n q d = rw (weekday-cycle n q, nth-cycle b n q d.day d.nth)

month_day-cycle : (n q k : ℤ) → month_day_matches (later n q) k ≡ month_day_matches n k
unfolding month_day_matches
month_day-cycle n q k =
    let a = at_cycle n q in
    rw (a.0, a.1, a.2, month_length-cycle (year_of n) q (month_of n))

month-cycle : (n q k : ℤ) → month_matches (later n q) k ≡ month_matches n k
unfolding month_matches
month-cycle n q k = rw (at_cycle n q).1

year_day-cycle : (n q k : ℤ) → year_day_matches (later n q) k ≡ year_day_matches n k
unfolding year_day_matches
year_day-cycle n q k =
    let a : later n q -ℤ year_first (later n q) +ℤ pos 1 ≡ n -ℤ year_first n +ℤ pos 1 = omega (arith, signed_arith, year_first-cycle n q) in
    let b : year_last (later n q) -ℤ later n q +ℤ pos 1 ≡ year_last n -ℤ n +ℤ pos 1 = omega (arith, signed_arith, year_last-cycle n q) in
    rw (a, b)

-- the first part of the law
pub day_matches-cycle : (r : Rule) → IsPeriodic (day_matches r)
unfolding day_matches
day_matches-cycle r n q =
    let b = counts_in_month r.frequency r.by_month in
    rw (
      empty_or_any-same (nday_matches b (later n q)) (nday_matches b n) (nday-cycle b n q) r.by_day,
      empty_or_any-same (month_day_matches (later n q)) (month_day_matches n) (month_day-cycle n q) r.by_month_day,
      empty_or_any-same (month_matches (later n q)) (month_matches n) (month-cycle n q) r.by_month,
      empty_or_any-same (year_day_matches (later n q)) (year_day_matches n) (year_day-cycle n q) r.by_year_day,
    )

-- and the second
pub is_kept-cycle : (r : Rule) → IsPeriodic (is_kept r)
unfolding is_kept
is_kept-cycle r n q =
    rw (
      day_matches-cycle r n q,
      period_first-cycle r.frequency r.week_start n q,
      period_last-cycle r.frequency r.week_start n q,
      count_from-cycle (day_matches r) (day_matches-cycle r) (period_first r.frequency r.week_start n) n q,
      count_from-cycle (day_matches r) (day_matches-cycle r) n (period_last r.frequency r.week_start n) q,
    )

int_eq-cycle : (n m q : ℤ) → int_eq (later n q) (later m q) ≡ int_eq n m
int_eq-cycle n m q =
    same_truth (int_eq (later n q) (later m q)) (int_eq n m)
    (λ h. let e = (Decides-int_eq (later n q) (later m q)).0 h in (Decides-int_eq n m).1 (omega (arith, signed_arith, e)))
    (λ h. let e = (Decides-int_eq n m).0 h in (Decides-int_eq (later n q) (later m q)).1 (omega (arith, signed_arith, e)))

beyond-cycle : (n q k : ℤ) → is_beyond_month (later n q) k ≡ is_beyond_month n k
beyond-cycle n q k = let a = at_cycle n q in rw (a.0, a.1, month_length-cycle (year_of n) q (month_of n))

pub is_overflow-cycle : (r : Rule) → IsPeriodic (is_overflow r)
unfolding is_overflow
is_overflow-cycle r n q =
    rw (
      month_last-cycle n q,
      int_eq-cycle n (month_last n) q,
      empty_or_any-same (month_matches (later n q)) (month_matches n) (month-cycle n q) r.by_month,
      list_any-same (is_beyond_month (later n q)) (is_beyond_month n) (beyond-cycle n q) r.by_month_day,
    )

pub moved_from-cycle : (s : Skip) (n q : ℤ) → moved_from s (later n q) ≡ later (moved_from s n) q
unfolding moved_from
moved_from-cycle Omit n q = refl
moved_from-cycle Backward n q = refl
moved_from-cycle Forward n q = omega (arith, signed_arith)

-- and the third
pub is_moved-cycle : (r : Rule) → IsPeriodic (is_moved r)
unfolding is_moved
is_moved-cycle r n q = rw (moved_from-cycle r.skip n q, is_overflow-cycle r (moved_from r.skip n) q)

pub count_days-none : (p : ℤ → Bool) (first : ℤ) → count_days p first 0 ≡ 0
unfolding count_days
count_days-none p first = refl

pub count_days-more : (p : ℤ → Bool) (first : ℤ) (k : ℕ) (b : Bool) (day : ℤ) → day ≡ first +ℤ pos k → b ≡ p day → count_days p first (k + 1) ≡ count_days p first k + cond b 1 0
unfolding count_days
count_days-more p first k b day e h =
    let s : k + 1 ≡ suc k = omega arith in
    rw (s, h, e)

pub count_from-before : (p : ℤ → Bool) (first n : ℤ) (k : ℕ) → first ≡ n -ℤ pos k → count_from p first n ≡ count_days p first (k + 1)
count_from-before p first n k e =
    let s : n -ℤ first +ℤ pos 1 ≡ pos (k + 1) = omega (arith, signed_arith) in
    rw s

pub count_from-after : (p : ℤ → Bool) (n last : ℤ) (k : ℕ) → last ≡ n +ℤ pos k → count_from p n last ≡ count_days p n (k + 1)
count_from-after p n last k e =
    let s : last -ℤ n +ℤ pos 1 ≡ pos (k + 1) = omega (arith, signed_arith) in
    rw s

-- being kept, from the counts before and after the day
pub is_kept-by : (r : Rule) (n first : ℤ) (before after front back : ℕ) (in_set : Bool)
    → day_matches r n ≡ true
    → period_first r.frequency r.week_start n ≡ n -ℤ pos before → period_last r.frequency r.week_start n ≡ n +ℤ pos after
    → first ≡ n -ℤ pos before
    → front ≡ count_days (day_matches r) first (before + 1) → back ≡ count_days (day_matches r) n (after + 1)
    → in_set ≡ empty_or_any (is_place front back) r.by_set → in_set ≡ is_kept r n
unfolding is_kept
is_kept-by r n first before after front back in_set m f l e a b s =
    rw (m, s, a, b, f, l, count_from-before (day_matches r) (n -ℤ pos before) n before refl, count_from-after (day_matches r) n (n +ℤ pos after) after refl, e)

pub empty_any : {A : Type 0} (p : A → Bool) (xs : List A) → length xs ≡ 0 → true ≡ empty_or_any p xs
empty_any p [] e = refl
empty_any p (x ∷ xs) e = absurd (omega (arith, e))

-- being kept where no place is asked for
pub is_kept-all : (r : Rule) (n : ℤ) → day_matches r n ≡ true → length r.by_set ≡ 0 → true ≡ is_kept r n
unfolding is_kept
is_kept-all r n m e =
    rw m
    (empty_any (is_place (count_from (day_matches r) (period_first r.frequency r.week_start n) n) (count_from (day_matches r) n (period_last r.frequency r.week_start n))) r.by_set e)

pub is_kept-not : (r : Rule) (n : ℤ) → day_matches r n ≡ false → false ≡ is_kept r n
unfolding is_kept
is_kept-not r n m = rw m

pub count_found : (p : ℤ → Bool) (first day : ℤ) (k n : ℕ) (b : Bool) → day ≡ first +ℤ pos k → b ≡ p day → b ≡ true → n ≡ count_days p first k → n + 1 ≡ count_days p first (k + 1)
count_found p first day k n b e h t old = rw (count_days-more p first k b day e h, t, old)

pub count_missed : (p : ℤ → Bool) (first day : ℤ) (k n : ℕ) (b : Bool) → day ≡ first +ℤ pos k → b ≡ p day → b ≡ false → n ≡ count_days p first k → n ≡ count_days p first (k + 1)
count_missed p first day k n b e h t old = rw (count_days-more p first k b day e h, t, old) (omega arith)
