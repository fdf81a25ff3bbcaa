-- A rule without days of the year that leaves out what a month hasn't has the days of the first edition.
use Rattle.std.proofs.Common.{◌≡◌, ◌&&◌, ◌||◌, Bool, true, false, ℤ, List, [], refl, ap, ◌∙◌}
use Rattle.spec_series.specs.declared.rule.Rule.{Rule}
use Rattle.spec_series.specs.declared.by_part.Skip.TheVariants.{Omit}
use Rattle.spec_series.specs.FirstEdition.{first_day_matches, is_kept_of, is_first_due, is_in_first_set, IsOfFirstEdition}
use Rattle.spec_series.specs.Periods.{is_in_phase}
use Rattle.spec_series.specs.Places.{empty_or_any}
use Rattle.spec_series.specs.RuleSets.{counts_in_month, nday_matches, month_day_matches, month_matches, year_day_matches, day_matches, is_kept, is_native, is_due, is_in_set, is_moved, is_overflow, moved_from, moves, is_day_of_set}
use Rattle.spec_time.specs.Walls.{day_of_wall, second_of_wall}

fourth_true : (a b c d : Bool) → d ≡ true → (a && (b && (c && d))) ≡ (a && (b && c))
fourth_true a b true d h = rw h refl
fourth_true true true false d h = refl
fourth_true true false false d h = refl
fourth_true false b false d h = refl

none_asked : (p : ℤ → Bool) (xs : List ℤ) → xs ≡ [] → empty_or_any p xs ≡ true
none_asked p xs e = ap (empty_or_any p) e

matches_same : (r : Rule) → r.by_year_day ≡ [] → (n : ℤ) → day_matches r n ≡ first_day_matches r n
unfolding day_matches first_day_matches
matches_same r e n =
    fourth_true (empty_or_any (nday_matches (counts_in_month r.frequency r.by_month) n) r.by_day) (empty_or_any (month_day_matches n) r.by_month_day) (empty_or_any (month_matches n) r.by_month) (empty_or_any (year_day_matches n) r.by_year_day)
    (none_asked (year_day_matches n) r.by_year_day e)

-- tests that answer alike are one
one_test : (p q : ℤ → Bool) → ((n : ℤ) → p n ≡ q n) → p ≡ q
one_test p q h = λ i n. h n i

kept_same : (r : Rule) → r.by_year_day ≡ [] → (n : ℤ) → is_kept r n ≡ is_kept_of r (first_day_matches r) n
unfolding is_kept
kept_same r e n = ap (λ p. is_kept_of r p n) (one_test (day_matches r) (first_day_matches r) (matches_same r e))

unmoved : (r : Rule) → r.skip ≡ Omit → (n : ℤ) → is_moved r n ≡ false
unfolding is_moved
unmoved r e n = ap (λ s. moves s && is_overflow r (moved_from s n)) e

or_false : (a b c : Bool) → b ≡ false → (a || (b && c)) ≡ a
or_false true b c h = refl
or_false false b c h = rw h refl

due_same : (r : Rule) → IsOfFirstEdition r → (s n : ℤ) → is_due r s n ≡ is_first_due r s n
unfolding is_due is_first_due
due_same r h s n =
    or_false (is_native r s n) (is_moved r n) (is_in_phase r s (moved_from r.skip n)) (unmoved r h.skip n)
    ∙ ap (λ b. b && is_in_phase r s n) (kept_same r h.year_days n)

pub set_same : (r : Rule) → IsOfFirstEdition r → (start n : ℤ) → is_in_set r start n ≡ is_in_first_set r start n
unfolding is_in_set is_in_first_set
set_same r h start n =
    ap (λ p. is_day_of_set p r.end (second_of_wall start) (day_of_wall start) n) (one_test (is_due r (day_of_wall start)) (is_first_due r (day_of_wall start)) (due_same r h (day_of_wall start)))
