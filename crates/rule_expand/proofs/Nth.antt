-- The place of a weekday in its scope, from the number of days before and after it.
use Rattle.std.proofs.Common.{◌≡◌, ℕ, zero, suc, ◌+◌, ◌-◌, ◌/◌, ◌%◌, ◌<◌, Bool, true, false, ◌&&◌, cond, nat_eq, refl, ◌∙◌, arith, ℤ, pos, ◌+ℤ◌, ◌-ℤ◌, Option, Some, None}
use Rattle.std.proofs.lemmas.Bool.Decides.{nat_tests}
use Rattle.jiff_core.proofs.SignedLemmas.{signed_arith}
use Rattle.spec_series.specs.Places.{count_days, count_from}
use Rattle.spec_series.specs.RuleSets.{scope_first, scope_last, is_weekday, nth_matches, nday_matches}
use Rattle.spec_time.specs.CivilDay.{weekday_of}
use Rattle.rule_expand.specs.Walk.{nth_at, nday_at}
use Rattle.spec_series.specs.declared.by_part.NDay.{NDay}
use Rattle.rule_expand.proofs.Cycle.{count_from-before, count_from-after}

weekday-later : (n m : ℤ) (k : ℕ) → m ≡ n +ℤ pos k → weekday_of m ≡ (weekday_of n + k) % 7
unfolding weekday_of
weekday-later n m k e = omega (arith, signed_arith)

count_step : (w d k off c : ℕ) → w < 7 → d < 7 → off < 7 → (w + off) % 7 ≡ d → c ≡ (k + 6 - off) / 7 → c + cond (nat_eq ((w + k) % 7) d) 1 0 ≡ (suc k + 6 - off) / 7
count_step w d k off c h i j e f = grind (arith, nat_tests)

pub count_weekday : (d : ℕ) (first : ℤ) (k off : ℕ) → d < 7 → weekday_of first < 7 → off < 7 → (weekday_of first + off) % 7 ≡ d → count_days (is_weekday d) first k ≡ (k + 6 - off) / 7
unfolding count_days
count_weekday d first zero off i w h e = omega arith
count_weekday d first (suc k) off i w h e =
    rw (weekday-later first (first +ℤ pos k) k refl) (count_step (weekday_of first) d k off (count_days (is_weekday d) first k) w i h e (count_weekday d first k off i w h e))

pub weekday_bound : (n : ℤ) → weekday_of n < 7
unfolding weekday_of
weekday_bound n = omega (arith, signed_arith)

-- the place from the front, and from the end
place_front : (n : ℤ) (first : ℤ) (before d : ℕ) → first ≡ n -ℤ pos before → weekday_of n ≡ d → count_from (is_weekday d) first n ≡ before / 7 + 1
place_front n first before d e w =
    let later : n ≡ first +ℤ pos before = omega (arith, signed_arith) in
    let moved = weekday-later first n before later in
    let off : (weekday_of first + before % 7) % 7 ≡ d = omega arith in
    count_from-before (is_weekday d) first n before e
    ∙ count_weekday d first (before + 1) (before % 7) (omega (arith, weekday_bound n)) (weekday_bound first) (omega arith) off
    ∙ omega arith

place_back : (n : ℤ) (last : ℤ) (after d : ℕ) → last ≡ n +ℤ pos after → weekday_of n ≡ d → count_from (is_weekday d) n last ≡ after / 7 + 1
place_back n last after d e w =
    let off : (weekday_of n + 0) % 7 ≡ d = omega (arith, weekday_bound n) in
    count_from-after (is_weekday d) n last after e
    ∙ count_weekday d n (after + 1) 0 (omega (arith, weekday_bound n)) (weekday_bound n) (omega arith) off
    ∙ omega arith

nth-is : (month : Bool) (n : ℤ) (before after d : ℕ) (nth : Option ℤ) → scope_first month n ≡ n -ℤ pos before → scope_last month n ≡ n +ℤ pos after → weekday_of n ≡ d → nth_at (before / 7 + 1) (after / 7 + 1) nth ≡ nth_matches month n d nth
unfolding nth_matches
nth-is month n before after d None f l w = refl
nth-is month n before after d (Some k) f l w =
    rw (place_front n (scope_first month n) before d f w, place_back n (scope_last month n) after d l w)

nday-by : (b : Bool) (month : Bool) (n : ℤ) (before after : ℕ) (d : NDay) → nat_eq (weekday_of n) d.day ≡ b → scope_first month n ≡ n -ℤ pos before → scope_last month n ≡ n +ℤ pos after → (b && nth_at (before / 7 + 1) (after / 7 + 1) d.nth) ≡ (b && nth_matches month n d.day d.nth)
nday-by true month n before after d e f l = nth-is month n before after d.day d.nth f l (grind (arith, nat_tests))
nday-by false month n before after d e f l = refl

pub nday-is : (month : Bool) (n : ℤ) (before after : ℕ) (d : NDay) → scope_first month n ≡ n -ℤ pos before → scope_last month n ≡ n +ℤ pos after → nday_at (weekday_of n) (before / 7 + 1) (after / 7 + 1) d ≡ nday_matches month n d
unfolding nday_matches
nday-is month n before after d f l = nday-by (nat_eq (weekday_of n) d.day) month n before after d refl f l
