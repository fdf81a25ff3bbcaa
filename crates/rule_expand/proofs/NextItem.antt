-- No day up to the next that an item of `byYearDay` or `byMonthDay` names, or to the end of the year or month, matches.
use Rattle.std.proofs.Common.{◌≡◌, ◌∙◌, ℕ, ◌+◌, ◌-◌, ◌<◌, ◌≤◌, Bool, false, refl, sym, ap, arith, ℤ, pos, ◌+ℤ◌, ◌-ℤ◌, ◌<ℤ◌, ◌≤ℤ◌, List, [], ◌∷◌, length}
use Rattle.std.specs.List.{list_any}
use Rattle.std.proofs.lemmas.Int.{by_lt_z}
use Rattle.jiff_core.proofs.SignedLemmas.{signed_arith}
use borrow.Author.Differences.{up, down}
use Rattle.spec_series.specs.declared.by_part.Freq.{Freq}
use Rattle.spec_series.specs.declared.by_part.Freq.TheVariants.{Monthly, Yearly}
use Rattle.spec_series.specs.declared.rule.Rule.{Rule}
use Rattle.spec_series.specs.Periods.{month_first, month_last, year_first, year_last, period_by, period_first, period_last}
use Rattle.spec_series.specs.Places.{empty_or_any, is_place}
use Rattle.spec_series.specs.RuleSets.{day_matches}
use Rattle.rule_expand.specs.Walk.{first_of}
use Rattle.rule_expand.proofs.MatchingDays.{month_days_are, no_month_day, no_year_day, year_days_are}
use Rattle.rule_expand.proofs.Next.{period-mono}
use Rattle.rule_expand.proofs.Periods.{first_of-period, last_same, period-last}

own_period : (f : Freq) (d n : ℤ) → d ≤ℤ n → n ≤ℤ period_last f 0 d → period_by f 0 n ≡ period_by f 0 d
own_period f d n low high =
    let a = period-mono f 0 d n low in
    let b = period-mono f 0 n (period_last f 0 d) high in
    let e = period-last f 0 d in
    omega (arith, signed_arith, a, b, e)

-- days of one period have one first and one last day
same_first : (f : Freq) (d n : ℤ) → period_by f 0 n ≡ period_by f 0 d → period_first f 0 n ≡ period_first f 0 d
same_first f d n own = sym (first_of-period f 0 n) ∙ ap (first_of f 0) own ∙ first_of-period f 0 d

-- so these lie so many days before and after a later one
later_first : (f : Freq) (d n : ℤ) (before after j : ℕ) → n ≡ d +ℤ pos j → j ≤ after → period_first f 0 d ≡ d -ℤ pos before → period_last f 0 d ≡ d +ℤ pos after → period_first f 0 n ≡ n -ℤ pos (before + j)
later_first f d n before after j e le g l =
    let own = own_period f d n (omega (arith, signed_arith, e)) (omega (arith, signed_arith, e, l, le)) in
    omega (arith, signed_arith, same_first f d n own, g, e)

later_last : (f : Freq) (d n : ℤ) (after j : ℕ) → n ≡ d +ℤ pos j → j ≤ after → period_last f 0 d ≡ d +ℤ pos after → period_last f 0 n ≡ n +ℤ pos (after - j)
later_last f d n after j e le l =
    let own = own_period f d n (omega (arith, signed_arith, e)) (omega (arith, signed_arith, e, l, le)) in
    omega (arith, signed_arith, last_same f 0 n d own, l, e, le)

-- where a part has items, one of them passes
pub asked : {A : Type 0} (p : A → Bool) (xs : List A) → 0 < length xs → empty_or_any p xs ≡ list_any p xs
asked p [] h = absurd (omega (arith, h))
asked p (x ∷ xs) h = refl

year_unnamed : (r : Rule) (d n : ℤ) (before after j : ℕ) → n ≡ d +ℤ pos j → j ≤ after → year_first d ≡ d -ℤ pos before → year_last d ≡ d +ℤ pos after
    → 0 < length r.by_year_day → list_any (is_place (before + j + 1) (after + 1 - j)) r.by_year_day ≡ false → day_matches r n ≡ false
unfolding period_first period_last
year_unnamed r d n before after j e le f l some none =
    let back : after + 1 - j ≡ after - j + 1 = omega (arith, le) in
    let here = year_days_are n (before + j) (after - j) r.by_year_day (later_first Yearly d n before after j e le f l) (later_last Yearly d n after j e le l) in
    sym (no_year_day r n (sym here ∙ asked (is_place (before + j + 1) (after - j + 1)) r.by_year_day some ∙ rw (← back) none))

month_unnamed : (r : Rule) (d n : ℤ) (before after j : ℕ) → n ≡ d +ℤ pos j → j ≤ after → month_first d ≡ d -ℤ pos before → month_last d ≡ d +ℤ pos after
    → 0 < length r.by_month_day → list_any (is_place (before + j + 1) (after + 1 - j)) r.by_month_day ≡ false → day_matches r n ≡ false
unfolding period_first period_last
month_unnamed r d n before after j e le f l some none =
    let back : after + 1 - j ≡ after - j + 1 = omega (arith, le) in
    let here = month_days_are n (before + j) (after - j) r.by_month_day (later_first Monthly d n before after j e le f l) (later_last Monthly d n after j e le l) in
    sym (no_month_day r n (sym here ∙ asked (is_place (before + j + 1) (after - j + 1)) r.by_month_day some ∙ rw (← back) none))

-- where neither a day matches nor one of so many days behind it
none_before : (r : Rule) (d : ℤ) (days : ℕ) → ((n : ℤ) (j : ℕ) → n ≡ d +ℤ pos j → 1 ≤ j → j < days → day_matches r n ≡ false) → day_matches r d ≡ false
    → (n : ℤ) → d ≤ℤ n → n <ℤ (d +ℤ pos days) → day_matches r n ≡ false
none_before r d days none unmatched n low high =
    by_lt_z d n
    (λ lt.
    let j = up n + down d - (down n + up d) in
    let e : n ≡ d +ℤ pos j = omega (arith, signed_arith, lt) in
    none n j e (omega (arith, signed_arith, lt)) (omega (arith, signed_arith, high, lt)))
    (λ ge. let e : n ≡ d = omega (arith, signed_arith, low, ge) in ap (day_matches r) e ∙ unmatched)

pub none_to_item : (r : Rule) (d : ℤ) (before after days : ℕ) → year_first d ≡ d -ℤ pos before → year_last d ≡ d +ℤ pos after → 0 < length r.by_year_day → days ≤ after + 1
    → ((j : ℕ) → 1 ≤ j → j < days → list_any (is_place (before + j + 1) (after + 1 - j)) r.by_year_day ≡ false) → day_matches r d ≡ false
    → (n : ℤ) → d ≤ℤ n → n <ℤ (d +ℤ pos days) → day_matches r n ≡ false
none_to_item r d before after days f l some bound none unmatched =
    none_before r d days (λ n j e one less. year_unnamed r d n before after j e (omega (arith, less, bound)) f l some (none j one less)) unmatched

pub none_to_month_item : (r : Rule) (d : ℤ) (before after days : ℕ) → month_first d ≡ d -ℤ pos before → month_last d ≡ d +ℤ pos after → 0 < length r.by_month_day → days ≤ after + 1
    → ((j : ℕ) → 1 ≤ j → j < days → list_any (is_place (before + j + 1) (after + 1 - j)) r.by_month_day ≡ false) → day_matches r d ≡ false
    → (n : ℤ) → d ≤ℤ n → n <ℤ (d +ℤ pos days) → day_matches r n ≡ false
none_to_month_item r d before after days f l some bound none unmatched =
    none_before r d days (λ n j e one less. month_unnamed r d n before after j e (omega (arith, less, bound)) f l some (none j one less)) unmatched
