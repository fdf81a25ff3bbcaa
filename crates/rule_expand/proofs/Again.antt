-- What a rule keeps and moves to comes again.
use Rattle.std.proofs.Common.{◌≡◌, inl, inr, ℕ, zero, suc, ◌==◌, ℤ, pos, ◌+ℤ◌, ◌-ℤ◌, Bool, true, false, ◌&&◌, List, [], ◌∷◌, Option, Some, None, nat_lt, refl, sym, ap, ◌∙◌, arith}
use Rattle.std.specs.List.{list_any, list_all}
use Rattle.std.specs.Ordering.{int_eq}
use Rattle.std.proofs.lemmas.Bool.{false_from_ne_true}
use Rattle.jiff_core.proofs.SignedLemmas.{signed_arith}
use Rattle.std.proofs.lemmas.Bool.Decides.{nat_tests}
use borrow.Author.Tests.{eqb-true}
use Rattle.spec_time.specs.CivilDay.{cycles_later, weekday_of}
use Rattle.spec_series.specs.declared.by_part.Freq.{Freq}
use Rattle.spec_series.specs.declared.by_part.Freq.TheVariants.{Daily, Weekly, Monthly, Yearly}
use Rattle.spec_series.specs.declared.by_part.NDay.{NDay}
use Rattle.spec_series.specs.declared.rule.Rule.{Rule}
use Rattle.spec_series.specs.Periods.{month_last, period_first, period_last}
use Rattle.spec_series.specs.Places.{count_days, count_from, at_least_zero, empty_or_any}
use Rattle.spec_series.specs.RuleLimits.{is_empty, is_nday, is_nth}
use Rattle.spec_series.specs.RuleSets.{nth_matches, nday_matches, month_day_matches, month_matches, year_day_matches, counts_in_month, day_matches, is_beyond_month, is_kept, is_moved, is_overflow, moved_from, moves}
use Rattle.rule_expand.proofs.Cycle.{is_kept-cycle, is_moved-cycle}
use Rattle.rule_expand.proofs.Places.{and_both, false_true}
use Rattle.rule_expand.proofs.Sets.{both_and, or_cases}
use Rattle.rule_expand.specs.Repeats.{is_up_to_a_week, is_of_weekdays, is_without_place, repeats_after, repeats_weekly}
use Rattle.std.specs.Option.{is_none}

-- the day a week later
abbrev pub week_later : ℤ → ℤ
week_later n = n +ℤ pos 7

weekday-week : (n : ℤ) → weekday_of (week_later n) ≡ weekday_of n
unfolding weekday_of
weekday-week n = omega (arith, signed_arith)

first-week : (f : Freq) (w : ℕ) (n : ℤ) → is_up_to_a_week f ≡ true → period_first f w (week_later n) ≡ week_later (period_first f w n)
unfolding period_first
first-week Daily w n h = refl
first-week Weekly w n h = omega (arith, signed_arith)
first-week Monthly w n h = absurd (false_true h)
first-week Yearly w n h = absurd (false_true h)

last-week : (f : Freq) (w : ℕ) (n : ℤ) → is_up_to_a_week f ≡ true → period_last f w (week_later n) ≡ week_later (period_last f w n)
unfolding period_last
last-week Daily w n h = refl
last-week Weekly w n h = omega (arith, signed_arith)
last-week Monthly w n h = absurd (false_true h)
last-week Yearly w n h = absurd (false_true h)

pub count_days-week : (p : ℤ → Bool) → ((n : ℤ) → p (week_later n) ≡ p n) → (first : ℤ) (k : ℕ) → count_days p (week_later first) k ≡ count_days p first k
unfolding count_days
count_days-week p h first zero = refl
count_days-week p h first (suc k) =
    let e : week_later first +ℤ pos k ≡ week_later (first +ℤ pos k) = omega (arith, signed_arith) in
    rw (count_days-week p h first k, e, h (first +ℤ pos k))

count_from-week : (p : ℤ → Bool) → ((n : ℤ) → p (week_later n) ≡ p n) → (first last : ℤ) → count_from p (week_later first) (week_later last) ≡ count_from p first last
count_from-week p h first last =
    let e : week_later last -ℤ week_later first +ℤ pos 1 ≡ last -ℤ first +ℤ pos 1 = omega (arith, signed_arith) in
    rw e (count_days-week p h first (at_least_zero (last -ℤ first +ℤ pos 1)))

no_nth : (f : Freq) (k : Option ℤ) → is_up_to_a_week f ≡ true → is_nth f k ≡ true → is_none k ≡ true
no_nth f None h g = refl
no_nth Daily (Some k) h g = absurd (false_true g)
no_nth Weekly (Some k) h g = absurd (false_true g)
no_nth Monthly (Some k) h g = absurd (false_true h)
no_nth Yearly (Some k) h g = absurd (false_true h)

nth-none : (b : Bool) (n m : ℤ) (d : ℕ) (k : Option ℤ) → is_none k ≡ true → nth_matches b m d k ≡ nth_matches b n d k
unfolding nth_matches
nth-none b n m d None e = refl
nth-none b n m d (Some k) e = absurd (false_true e)

nday-week : (b : Bool) (n : ℤ) (d : NDay) → is_without_place d ≡ true → nday_matches b (week_later n) d ≡ nday_matches b n d
unfolding nday_matches
nday-week b n d g = rw (weekday-week n, nth-none b n (week_later n) d.day d.nth g)

all-more : {A : Type 0} (t u : A → Bool) → ((x : A) → t x ≡ true → u x ≡ true) → (xs : List A) → list_all t xs ≡ true → list_all u xs ≡ true
all-more t u h [] all = refl
all-more t u h (x ∷ xs) all = let a = and_both (t x) (list_all t xs) all in rw (h x a.0, all-more t u h xs a.1) refl

any-same : {A : Type 0} (t p r : A → Bool) → ((x : A) → t x ≡ true → p x ≡ r x) → (xs : List A) → list_all t xs ≡ true → list_any p xs ≡ list_any r xs
any-same t p r h [] all = refl
any-same t p r h (x ∷ xs) all = let a = and_both (t x) (list_all t xs) all in rw (h x a.0, any-same t p r h xs a.1)

empty-same : {A : Type 0} (t p r : A → Bool) → ((x : A) → t x ≡ true → p x ≡ r x) → (xs : List A) → list_all t xs ≡ true → empty_or_any p xs ≡ empty_or_any r xs
empty-same t p r h [] all = refl
empty-same t p r h (x ∷ xs) all = any-same t p r h (x ∷ xs) all

empty-any : (p : ℤ → Bool) (xs : List ℤ) → is_empty xs ≡ true → empty_or_any p xs ≡ true
empty-any p [] h = refl
empty-any p (x ∷ xs) h = grind (arith, nat_tests)

-- a rule that looks at days of the week alone matches every week the same
pub weekly_matches : (r : Rule) → repeats_weekly r ≡ true → (n : ℤ) → day_matches r (week_later n) ≡ day_matches r n
unfolding day_matches
weekly_matches r h n =
    let p = and_both (is_empty r.by_month_day) (is_empty r.by_month && (is_empty r.by_year_day && list_all is_without_place r.by_day)) h in
    let q = and_both (is_empty r.by_month) (is_empty r.by_year_day && list_all is_without_place r.by_day) p.1 in
    let u = and_both (is_empty r.by_year_day) (list_all is_without_place r.by_day) q.1 in
    let b = counts_in_month r.frequency r.by_month in
    rw (
      empty-same is_without_place (nday_matches b (week_later n)) (nday_matches b n) (λ d g. nday-week b n d g) r.by_day u.1,
      empty-any (month_day_matches (week_later n)) r.by_month_day p.0,
      empty-any (month_matches (week_later n)) r.by_month q.0,
      empty-any (year_day_matches (week_later n)) r.by_year_day u.0,
      empty-any (month_day_matches n) r.by_month_day p.0,
      empty-any (month_matches n) r.by_month q.0,
      empty-any (year_day_matches n) r.by_year_day u.0,
    ) refl

matches-week : (r : Rule) → is_of_weekdays r ≡ true → (n : ℤ) → day_matches r (week_later n) ≡ day_matches r n
matches-week r h =
    let p = and_both (is_up_to_a_week r.frequency) (is_empty r.by_month_day && (is_empty r.by_month && is_empty r.by_year_day)) h in
    let q = and_both (is_empty r.by_month_day) (is_empty r.by_month && is_empty r.by_year_day) p.1 in
    let u = and_both (is_empty r.by_month) (is_empty r.by_year_day) q.1 in
    let limits = and_both (list_all (is_nday r.frequency) r.by_day) _ r.by_parts_in in
    let all = all-more (is_nday r.frequency) is_without_place (λ d g. no_nth r.frequency d.nth p.0 (and_both (nat_lt d.day 7) (is_nth r.frequency d.nth) g).1) r.by_day limits.0 in
    weekly_matches r (both_and (is_empty r.by_month_day) _ q.0 (both_and (is_empty r.by_month) _ u.0 (both_and (is_empty r.by_year_day) _ u.1 all)))

kept-week : (r : Rule) → is_of_weekdays r ≡ true → (n : ℤ) → is_kept r (week_later n) ≡ is_kept r n
unfolding is_kept
kept-week r h n =
    let p = and_both (is_up_to_a_week r.frequency) (is_empty r.by_month_day && (is_empty r.by_month && is_empty r.by_year_day)) h in
    rw (
      matches-week r h n,
      first-week r.frequency r.week_start n p.0,
      last-week r.frequency r.week_start n p.0,
      count_from-week (day_matches r) (matches-week r h) (period_first r.frequency r.week_start n) n,
      count_from-week (day_matches r) (matches-week r h) n (period_last r.frequency r.week_start n),
    ) refl

pub kept_again : (r : Rule) (c : ℕ) → repeats_after r c ≡ true → (n : ℤ) → is_kept r (n +ℤ pos c) ≡ is_kept r n
kept_again r c h n =
    elim (or_cases (c == 146097) ((c == 7) && is_of_weekdays r) h) [
      | inl whole ↦
          let is : c ≡ 146097 = eqb-true c 146097 whole in
          let e : n +ℤ pos c ≡ cycles_later n (pos 1) = omega (arith, signed_arith, is) in
          ap (is_kept r) e ∙ is_kept-cycle r n (pos 1)
      | inr week ↦
          let p = and_both (c == 7) (is_of_weekdays r) week in
          let is : c ≡ 7 = eqb-true c 7 p.0 in
          ap (λ x. is_kept r (n +ℤ pos x)) is ∙ kept-week r p.1 n
    ]

none_among : (p : ℤ → Bool) (xs : List ℤ) → is_empty xs ≡ true → list_any p xs ≡ true → ⊥
none_among p [] h g = false_true g
none_among p (x ∷ xs) h g = grind (arith, nat_tests)

-- without days of the month nothing is moved
unmoved : (r : Rule) → is_empty r.by_month_day ≡ true → (n : ℤ) → is_moved r n ≡ false
unfolding is_moved is_overflow
unmoved r h n =
    false_from_ne_true (is_moved r n) (λ m.
    let x = moved_from r.skip n in
    let a = and_both (moves r.skip) (is_overflow r x) m in
    let b = and_both (int_eq x (month_last x)) (empty_or_any (month_matches x) r.by_month && list_any (is_beyond_month x) r.by_month_day) a.1 in
    let c = and_both (empty_or_any (month_matches x) r.by_month) (list_any (is_beyond_month x) r.by_month_day) b.1 in
    none_among (is_beyond_month x) r.by_month_day h c.1)

pub moved_again : (r : Rule) (c : ℕ) → repeats_after r c ≡ true → (n : ℤ) → is_moved r (n +ℤ pos c) ≡ is_moved r n
moved_again r c h n =
    elim (or_cases (c == 146097) ((c == 7) && is_of_weekdays r) h) [
      | inl whole ↦
          let is : c ≡ 146097 = eqb-true c 146097 whole in
          let e : n +ℤ pos c ≡ cycles_later n (pos 1) = omega (arith, signed_arith, is) in
          ap (is_moved r) e ∙ is_moved-cycle r n (pos 1)
      | inr week ↦
          let p = and_both (c == 7) (is_of_weekdays r) week in
          let q = and_both (is_up_to_a_week r.frequency) (is_empty r.by_month_day && (is_empty r.by_month && is_empty r.by_year_day)) p.1 in
          let none = unmoved r (and_both (is_empty r.by_month_day) (is_empty r.by_month && is_empty r.by_year_day) q.1).0 in
          none (n +ℤ pos c) ∙ sym (none n)
    ]
