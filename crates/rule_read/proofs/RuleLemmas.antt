-- Rules, one after another.
use Rattle.std.proofs.Common.{◌≡◌, ◌&&◌, ℤ, pos, Bool, true, false, nat_le, nat_lt, int_le, arith, if◌then◌else◌, List, [], ◌∷◌, ◌++◌, Option, Some, None, map, option_map, refl, sym, ap, ◌∙◌, append_assoc}
use Rattle.spec_series.specs.declared.rule.Rule.{Rule}
use Rattle.spec_json.specs.Data.{Data}
use Rattle.spec_json.specs.Parts.{all_some}
use Rattle.spec_json.specs.TreeData.{data_of}
use Rattle.spec_json.specs.declared.tree.Tree.{Tree}
use Rattle.std.proofs.Common.{◌<◌, ◌+◌, ◌+ℤ◌, ℕ, suc, add-one, drop, drop-cons, get_or, length, option_and_then}
use Rattle.std.specs.List.{list_all}
use Rattle.std.proofs.lemmas.Bool.{and_from, and_parts}
use Rattle.std.proofs.lemmas.Bool.Decides.{nat_tests}
use Rattle.std.proofs.lemmas.Int.{ints}
use Rattle.jiff_core.proofs.SignedLemmas.{signed_arith}
use Rattle.civil_days.proofs.DateLemmas.{one_date}
use Rattle.civil_days.proofs.MonthLemmas.{month_length_bound}
use Rattle.spec_time.specs.CivilDay.{day_of_month, month_of, weekday_of, year_of}
use Rattle.spec_time.specs.Floor.{modulo}
use Rattle.spec_series.specs.declared.by_part.Freq.{Freq}
use Rattle.spec_series.specs.declared.by_part.NDay.{NDay}
use Rattle.spec_series.specs.RuleLimits.{are_by_parts, is_month, is_nday, is_place_to}
use Rattle.spec_series.specs.RuleObjects.{RuleParts, implied_days, implied_month_days, implied_months, parts_of}

map_push : (done : List Rule) (r : Rule) → map parts_of (done ++ r ∷ []) ≡ map parts_of done ++ parts_of r ∷ []
map_push [] r = refl
map_push (d ∷ ds) r = ap (λ xs. parts_of d ∷ xs) (map_push ds r)

push_parts : (done : List Rule) (r : Rule) (rest : Option (List RuleParts))
    → option_map (λ xs. map parts_of done ++ xs) (option_map (λ xs. parts_of r ∷ xs) rest) ≡ option_map (λ xs. map parts_of (done ++ r ∷ []) ++ xs) rest
push_parts done r None = refl
push_parts done r (Some xs) = ap Some (sym (append_assoc (map parts_of done) (parts_of r ∷ []) xs) ∙ ap (λ ys. ys ++ xs) (sym (map_push done r)))

-- one item more of a list of rules is a rule
pub next_rule : (f : Data → Option RuleParts) (items : List Tree) (i : ℕ) (item : Tree) (done more : List Rule) (r : Rule) → i < length items → item ≡ get_or items i item → f (data_of item) ≡ Some (parts_of r) → more ≡ done ++ r ∷ []
    → all_some f (map data_of items) ≡ option_map (λ xs. map parts_of done ++ xs) (all_some f (map data_of (drop i items)))
    → all_some f (map data_of items) ≡ option_map (λ xs. map parts_of more ++ xs) (all_some f (map data_of (drop (i + 1) items)))
next_rule f items i item done more r low here is_rule pushed so_far =
    let rest = all_some f (map data_of (drop (i + 1) items)) in
    let cut : drop i items ≡ item ∷ drop (i + 1) items = drop-cons items i item low ∙ rw add-one (ap (λ x. x ∷ drop (suc i) items) (sym here)) in
    so_far
    ∙ ap (λ ts. option_map (λ xs. map parts_of done ++ xs) (all_some f (map data_of ts))) cut
    ∙ ap (λ o. option_map (λ xs. map parts_of done ++ xs) (option_and_then (λ y. option_map (λ ys. y ∷ ys) rest) o)) is_rule
    ∙ push_parts done r rest
    ∙ ap (λ rs. option_map (λ xs. map parts_of rs ++ xs) rest) (sym pushed)

weekday_small : (n : ℤ) → nat_lt (weekday_of n) 7 ≡ true
unfolding weekday_of
weekday_small n = let b : modulo (n +ℤ pos 3) 7 < 7 = omega (arith, signed_arith) in grind (arith, nat_tests)

month_small : (n : ℤ) → is_month (pos (month_of n)) ≡ true
month_small n =
    let d = (one_date n).date.0.0 in
    and_from (int_le (pos 1) (pos (month_of n))) (int_le (pos (month_of n)) (pos 12)) (grind (arith, ints, d)) (grind (arith, ints, d))

month_day_small : (n : ℤ) → is_place_to 31 (pos (day_of_month n)) ≡ true
month_day_small n =
    let d = (one_date n).date.0.1 in
    let most = month_length_bound (year_of n) (month_of n) in
    and_from (nat_le 1 (day_of_month n)) (nat_le (day_of_month n) 31) (grind (arith, nat_tests, d)) (grind (arith, nat_tests, d))

-- what is implied is within the limits
module _ (f : Freq) (n : ℤ) where
  days_by : (b : Bool) (by_day : List NDay) → list_all (is_nday f) by_day ≡ true → list_all (is_nday f) (if b then record { day = weekday_of n; nth = None } ∷ [] else by_day) ≡ true
  days_by true by_day h = and_from (nat_lt (weekday_of n) 7 && true) true (and_from (nat_lt (weekday_of n) 7) true (weekday_small n) refl) refl
  days_by false by_day h = h

  month_days_by : (b : Bool) (xs : List ℤ) → list_all (is_place_to 31) xs ≡ true → list_all (is_place_to 31) (if b then pos (day_of_month n) ∷ [] else xs) ≡ true
  month_days_by true xs h = and_from (is_place_to 31 (pos (day_of_month n))) true (month_day_small n) refl
  month_days_by false xs h = h

  months_by : (b : Bool) (xs : List ℤ) → list_all is_month xs ≡ true → list_all is_month (if b then pos (month_of n) ∷ [] else xs) ≡ true
  months_by true xs h = and_from (is_month (pos (month_of n))) true (month_small n) refl
  months_by false xs h = h

  pub filled_parts : (by_day : List NDay) (by_month_day by_month by_year_day by_set : List ℤ) → are_by_parts f by_day by_month_day by_month by_set ≡ true
      → are_by_parts f (implied_days f n by_day) (implied_month_days f n by_day by_month_day by_year_day) (implied_months f n by_day by_month_day by_month by_year_day) by_set ≡ true
  filled_parts by_day by_month_day by_month by_year_day by_set h =
      let a = and_parts (list_all (is_nday f) by_day) _ h in
      let b = and_parts (list_all (is_place_to 31) by_month_day) _ a.1 in
      let c = and_parts (list_all is_month by_month) (list_all (is_place_to 366) by_set) b.1 in
      and_from _ _ (days_by _ by_day a.0) (and_from _ _ (month_days_by _ by_month_day b.0) (and_from _ _ (months_by _ by_month c.0) c.1))
