-- No exception names a day after the years 0 to 9999.
use Rattle.std.proofs.Common.{◌≡◌, ◌≤◌, ◌&&◌, ℕ, ℤ, pos, ◌+ℤ◌, ◌≤ℤ◌, ◌<ℤ◌, true, false, not, arith, refl, List, unsigned_abs}
use Rattle.std.proofs.lemmas.Int.{ints}
use Rattle.spec_series.specs.declared.exception.Exception.{Exception}
use Rattle.spec_series.specs.SeriesLimits.{is_named, are_in_years}
use Rattle.spec_time.specs.Walls.{wall_at}
use Rattle.rule_expand.proofs.Regular.{named_near, named_early}
use Rattle.rule_expand.proofs.Sets.{not_true}

free_late : (xs : List Exception) (t : ℕ) (n : ℤ) → are_in_years xs ≡ true → pos 5000000 <ℤ n → is_named xs (wall_at n t) ≡ false
free_late xs t n h late = not_true (is_named xs (wall_at n t)) (λ e. let early = named_early xs n t (named_near xs h) e in omega (arith, ints, early, late))

-- neither the occurrence of such a day of the one series nor that of the day at an offset of the other is named
pub late_days : (xs ys : List Exception) (t u : ℕ) (d : ℤ) → unsigned_abs d ≤ 8 → are_in_years xs ≡ true → are_in_years ys ≡ true
    → (n : ℤ) → pos 6000000 ≤ℤ n → (not (is_named xs (wall_at n t)) && not (is_named ys (wall_at (n +ℤ d) u))) ≡ true
late_days xs ys t u d near years_a years_b n h =
    rw (
      free_late xs t n years_a (omega (arith, ints, h)),
      free_late ys u (n +ℤ d) years_b (omega (arith, ints, h, near)),
    ) refl
