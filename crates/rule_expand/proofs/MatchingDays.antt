-- Which days match a rule, from the parts that match.
use Rattle.std.proofs.Common.{◌&&◌, ◌≡◌, ℕ, ◌+◌, ◌-◌, ◌<◌, Bool, true, false, refl, sym, ap, ◌∙◌, arith, ℤ, pos, ◌+ℤ◌, ◌-ℤ◌, ◌<ℤ◌, ◌≤ℤ◌, List, [], Option, Some, None, IfSome}
use Rattle.std.specs.Ordering.{int_eq}
use Rattle.std.proofs.lemmas.Bool.{and_from, and_parts}
use Rattle.spec_series.specs.Places.{count_from}
use Rattle.spec_series.specs.Periods.{period_first}
use Rattle.std.proofs.lemmas.Int.{by_lt_z}
use Rattle.jiff_core.proofs.SignedLemmas.{signed_arith}
use Rattle.spec_time.specs.CivilDay.{day_of_month, month_length, month_of, year_of}
use Rattle.spec_series.specs.declared.by_part.Freq.TheVariants.{Monthly}
use Rattle.spec_series.specs.declared.rule.Rule.{Rule}
use Rattle.spec_series.specs.Periods.{month_last, period_by, period_last}
use Rattle.spec_series.specs.Places.{at_least_zero, empty_or_any}
use Rattle.spec_series.specs.RuleSets.{counts_in_month, day_matches, is_kept, month_day_matches, month_matches, nday_matches, year_day_matches}
use Rattle.rule_expand.specs.Walk.{IsFirstIn, IsFirstMatch, IsFirstPlain, NoneIn, NonePlain, first_of}
use Rattle.rule_expand.proofs.Dates.{at_law, month_first-is, month_last-is}
use Rattle.rule_expand.proofs.Cycle.{empty_or_any-same}
use Rattle.rule_expand.proofs.Nth.{nday-is}
use Rattle.rule_expand.proofs.Regular.{int_gap_is}
use Rattle.spec_series.specs.declared.by_part.NDay.{NDay}
use Rattle.std.specs.Int.{int_gap}
use Rattle.std.proofs.Common.{◌/◌}
use Rattle.spec_time.specs.CivilDay.{weekday_of}
use Rattle.spec_series.specs.Periods.{month_first, year_first, year_last}
use Rattle.spec_series.specs.Places.{is_place}
use Rattle.spec_series.specs.RuleSets.{scope_first, scope_last}
use Rattle.rule_expand.specs.Walk.{nday_at}
use Rattle.rule_expand.proofs.Next.{period-mono}
use Rattle.rule_expand.proofs.Periods.{in_period_from, le_last, period_between, period-last}

last_false : (a b c : Bool) → (a && (b && (false && c))) ≡ false
last_false true true c = refl
last_false true false c = refl
last_false false b c = refl

end_false : (a b c : Bool) → (a && (b && (c && false))) ≡ false
end_false true true true = refl
end_false true true false = refl
end_false true false c = refl
end_false false b c = refl

middle_false : (a c : Bool) → (a && (false && c)) ≡ false
middle_false true c = refl
middle_false false c = refl

first_alone : (a : Bool) → (a && (true && (true && true))) ≡ a
first_alone true = refl
first_alone false = refl

pub no_month : (r : Rule) (n : ℤ) → empty_or_any (month_matches n) r.by_month ≡ false → false ≡ day_matches r n
unfolding day_matches
no_month r n e =
    rw e (sym (last_false (empty_or_any (nday_matches (counts_in_month r.frequency r.by_month) n) r.by_day) (empty_or_any (month_day_matches n) r.by_month_day) (empty_or_any (year_day_matches n) r.by_year_day)))

pub no_month_day : (r : Rule) (n : ℤ) → empty_or_any (month_day_matches n) r.by_month_day ≡ false → false ≡ day_matches r n
unfolding day_matches
no_month_day r n e =
    rw e (sym (middle_false (empty_or_any (nday_matches (counts_in_month r.frequency r.by_month) n) r.by_day) (empty_or_any (month_matches n) r.by_month && empty_or_any (year_day_matches n) r.by_year_day)))

pub no_year_day : (r : Rule) (n : ℤ) → empty_or_any (year_day_matches n) r.by_year_day ≡ false → false ≡ day_matches r n
unfolding day_matches
no_year_day r n e =
    rw e (sym (end_false (empty_or_any (nday_matches (counts_in_month r.frequency r.by_month) n) r.by_day) (empty_or_any (month_day_matches n) r.by_month_day) (empty_or_any (month_matches n) r.by_month)))

pub by_weekday : (r : Rule) (n : ℤ) (a : Bool) → a ≡ empty_or_any (nday_matches (counts_in_month r.frequency r.by_month) n) r.by_day
    → empty_or_any (month_day_matches n) r.by_month_day ≡ true → empty_or_any (month_matches n) r.by_month ≡ true → empty_or_any (year_day_matches n) r.by_year_day ≡ true → a ≡ day_matches r n
unfolding day_matches
by_weekday r n a h e f g = rw (e, f, g) (h ∙ sym (first_alone _))

month_same : (d n : ℤ) → d ≤ℤ n → n ≤ℤ month_last d → month_of n ≡ month_of d
unfolding period_by period_last
month_same d n low high =
    let a = period-mono Monthly 0 d n low in
    let b = period-mono Monthly 0 n (month_last d) high in
    let e = period-last Monthly 0 d in
    omega (arith, signed_arith, (at_law n).0, (at_law d).0)

-- a month that is left out has no matching day
pub month_none : (r : Rule) (d n : ℤ) → empty_or_any (month_matches d) r.by_month ≡ false → d ≤ℤ n → n <ℤ (month_last d +ℤ pos 1) → day_matches r n ≡ false
unfolding month_matches
month_none r d n e low high =
    let same = month_same d n low (omega (arith, signed_arith, high)) in
    sym (no_month r n (ap (λ m. empty_or_any (λ k. int_eq k (pos m)) r.by_month) same ∙ e))

pub last_after : (d : ℤ) → d ≤ℤ month_last d
unfolding period_last
last_after d = le_last Monthly 0 d

-- a rule without places keeps every matching day
pub kept_plain : (r : Rule) (n : ℤ) → r.by_set ≡ [] → is_kept r n ≡ true → day_matches r n ≡ true
unfolding is_kept
kept_plain r n e h = (and_parts (day_matches r n) _ h).0

pub plain_kept : (r : Rule) (n : ℤ) → r.by_set ≡ [] → day_matches r n ≡ true → is_kept r n ≡ true
unfolding is_kept
plain_kept r n e h =
    and_from (day_matches r n) _ h (ap (empty_or_any (is_place
    (count_from (day_matches r) (period_first r.frequency r.week_start n) n)
    (count_from (day_matches r) n (period_last r.frequency r.week_start n)))) e)

-- a test that passes the same days as another
abbrev pub Passes : (ℤ → Bool) → (ℤ → Bool) → Type 0
Passes t u = (n : ℤ) → t n ≡ true → u n ≡ true

pub plain_none : (r : Rule) (t u : ℤ → Bool) → Passes u t → (after p d : ℤ) (more : ℕ) → d ≡ first_of r.frequency r.week_start p → period_last r.frequency r.week_start d ≡ d +ℤ pos more
    → NonePlain t after d more → NoneIn r u after p
plain_none r t u to after p d more first last none m own past kept =
    let b = in_period_from r.frequency r.week_start p m d first own in
    none m b.0 (rw last at b.1) past (to m kept)

pub plain_first : (r : Rule) (t u : ℤ → Bool) → Passes u t → Passes t u → (after p d n : ℤ) (more : ℕ) → d ≡ first_of r.frequency r.week_start p → period_last r.frequency r.week_start d ≡ d +ℤ pos more
    → IsFirstPlain t after d more n → IsFirstIn r u after p n
plain_first r t u to from after p d n more first last h = record {
  own = period_between r.frequency r.week_start p n d first h.low (rw last h.high);
  past = h.past;
  passes = from n h.matches;
  least = λ m own past kept.
      let b = in_period_from r.frequency r.week_start p m d first own in
      by_lt_z m n (λ lt. absurd (h.before m b.0 lt past (to m kept))) (λ ge. ge);
}

-- the later of a period's first day and the day after another
pub record IsLow (first after from : ℤ) : Type 0 where
  pub low : first ≤ℤ from
  pub past : after <ℤ from
  pub least : (n : ℤ) → first ≤ℤ n → after <ℤ n → from ≤ℤ n

pub match_none : (t : ℤ → Bool) (after first from : ℤ) (more : ℕ) → IsLow first after from
    → ((n : ℤ) → from ≤ℤ n → n ≤ℤ (first +ℤ pos more) → t n ≡ true → ⊥) → NonePlain t after first more
match_none t after first from more e none n low high past m = none n (e.least n low past) high m

pub match_first : (t : ℤ → Bool) (after first from n : ℤ) (more : ℕ) → IsLow first after from
    → IsFirstMatch t from (first +ℤ pos more) n → IsFirstPlain t after first more n
match_first t after first from n more e h = record {
  low = omega (arith, signed_arith, e.low, h.low);
  high = h.high;
  past = omega (arith, signed_arith, e.past, h.low);
  matches = h.matches;
  before = λ m low lt past k. h.before m (e.least m low past) lt k;
}

pub some_match : (t : ℤ → Bool) (after first from : ℤ) (more : ℕ) → IsLow first after from
    → (o : Option ℤ) → IfSome o (IsFirstMatch t from (first +ℤ pos more)) → IfSome o (IsFirstPlain t after first more)
some_match t after first from more e None h = tt
some_match t after first from more e (Some n) h = match_first t after first from n more e h

pub never_match : (t : ℤ → Bool) (after first from : ℤ) (more : ℕ) → IsLow first after from → (first +ℤ pos more) <ℤ from → NonePlain t after first more
never_match t after first from more e lt n low high past m = omega (arith, signed_arith, e.least n low past, lt, high)

pub month_days_are : (n : ℤ) (before after : ℕ) (xs : List ℤ) → month_first n ≡ n -ℤ pos before → month_last n ≡ n +ℤ pos after
    → empty_or_any (is_place (before + 1) (after + 1)) xs ≡ empty_or_any (month_day_matches n) xs
unfolding month_day_matches
month_days_are n before after xs f l =
    let a : before + 1 ≡ day_of_month n = omega (arith, signed_arith, f, month_first-is n, (at_law n).0) in
    let b : after + 1 ≡ month_length (year_of n) (month_of n) + 1 - day_of_month n = omega (arith, signed_arith, l, month_last-is n, (at_law n).0) in
    rw (a, b) refl

-- the place of a day in its year, by the days before and after it
pub year_days_are : (n : ℤ) (before after : ℕ) (xs : List ℤ) → year_first n ≡ n -ℤ pos before → year_last n ≡ n +ℤ pos after
    → empty_or_any (is_place (before + 1) (after + 1)) xs ≡ empty_or_any (year_day_matches n) xs
unfolding year_day_matches
year_days_are n before after xs f l =
    let x : pos (before + 1) ≡ n -ℤ year_first n +ℤ pos 1 = omega (arith, signed_arith, f) in
    let y : pos (after + 1) ≡ year_last n -ℤ n +ℤ pos 1 = omega (arith, signed_arith, l) in
    let a : before + 1 ≡ at_least_zero (n -ℤ year_first n +ℤ pos 1) = ap at_least_zero x in
    let b : after + 1 ≡ at_least_zero (year_last n -ℤ n +ℤ pos 1) = ap at_least_zero y in
    rw (a, b) refl

pub weekdays_are : (month : Bool) (n : ℤ) (before after : ℕ) (xs : List NDay) → scope_first month n ≡ n -ℤ pos before → scope_last month n ≡ n +ℤ pos after
    → empty_or_any (nday_at (weekday_of n) (before / 7 + 1) (after / 7 + 1)) xs ≡ empty_or_any (nday_matches month n) xs
weekdays_are month n before after xs f l =
    empty_or_any-same (nday_at (weekday_of n) (before / 7 + 1) (after / 7 + 1)) (nday_matches month n) (λ d. nday-is month n before after d f l) xs

pub gap_falls : (a b c : ℤ) → a <ℤ b → a <ℤ c → int_gap b c < int_gap a c
gap_falls a b c lt h = omega (arith, signed_arith, int_gap_is a c, int_gap_is b c)

pub some_plain : (r : Rule) (t u : ℤ → Bool) → Passes u t → Passes t u → (after p d : ℤ) (more : ℕ) → d ≡ first_of r.frequency r.week_start p → period_last r.frequency r.week_start d ≡ d +ℤ pos more
    → (o : Option ℤ) → IfSome o (IsFirstPlain t after d more) → IfSome o (IsFirstIn r u after p)
some_plain r t u to from after p d more first last None h = tt
some_plain r t u to from after p d more first last (Some n) h = plain_first r t u to from after p d n more first last h
