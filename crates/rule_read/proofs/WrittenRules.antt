-- A rule that was written is read back.
use Rattle.std.proofs.Common.{zero, suc, ◌≡◌, ◌&&◌, ◌||◌, ◌≤◌, ◌<◌, ℕ, ℤ, pos, negsuc, List, [], ◌∷◌, Bool, true, false, Option, Some, None, map, nat_le, nat_lt, int_le, if◌then◌else◌, refl, sym, ap, ◌∙◌, arith, subst, option_and_then, option_map}
use Rattle.std.specs.List.{list_all}
use Rattle.std.specs.Int.{IsInRange}
use Rattle.std.proofs.lemmas.Bool.{and_from, and_parts}
use Rattle.std.proofs.lemmas.Bool.Decides.{nat_tests}
use Rattle.std.proofs.lemmas.Int.{ints}
use Rattle.spec_json.specs.Data.{Data, whole, list, items_of, items_back}
use Rattle.spec_json.specs.Parts.{all_some}
use Rattle.spec_series.specs.declared.by_part.Freq.{Freq}
use Rattle.spec_series.specs.declared.by_part.Freq.TheVariants.{Daily, Weekly, Monthly, Yearly}
use Rattle.spec_series.specs.declared.by_part.End.{End}
use Rattle.spec_series.specs.declared.by_part.End.TheVariants.{Never, Count, Until}
use Rattle.spec_series.specs.declared.by_part.NDay.{NDay}
use Rattle.spec_series.specs.declared.by_part.Skip.{Skip}
use Rattle.spec_series.specs.declared.by_part.Skip.TheVariants.{Omit, Backward, Forward}
use Rattle.spec_series.specs.declared.rule.Rule.{Rule}
use Rattle.spec_series.specs.RuleLimits.{has_years, is_empty, is_end, is_month, is_nday, is_nth, is_place_to}
use Rattle.spec_series.specs.RuleObjects.{Readings, RuleParts, count_data, each_in, end_in, filled, fits_frequency, frequency_named, frequency_text, is_rule_object, is_settled, month_data, month_in, month_of_number, nday_data, nday_in, nth_data, nth_in, parts_of, parts_read, place_in, present, readings_of, rule_data, rule_in, rule_with, settled_rule, skip_named, thousand_of, until_data, weekday_named, weekday_text}
use Rattle.rule_read.proofs.ReadingLemmas.{made}
use Rattle.time_text.proofs.NumberLemmas.{decimal_back}
use Rattle.time_text.proofs.WrittenLemmas.{read_back as local_back}

-- Words.

frequency_back : (f : Freq) → frequency_named (frequency_text f) ≡ Some f
unfolding frequency_named frequency_text
frequency_back Daily = refl
frequency_back Weekly = refl
frequency_back Monthly = refl
frequency_back Yearly = refl

weekday_back_at : (n : ℕ) → n < 7 → weekday_named (weekday_text n) ≡ Some n
unfolding weekday_named weekday_text
weekday_back_at zero h = refl
weekday_back_at (suc zero) h = refl
weekday_back_at (suc (suc zero)) h = refl
weekday_back_at (suc (suc (suc zero))) h = refl
weekday_back_at (suc (suc (suc (suc zero)))) h = refl
weekday_back_at (suc (suc (suc (suc (suc zero))))) h = refl
weekday_back_at (suc (suc (suc (suc (suc (suc zero)))))) h = refl
weekday_back_at (suc (suc (suc (suc (suc (suc (suc n))))))) h = absurd (omega arith)

-- Numbers.

chosen : {X : Type 0} (b : Bool) (x : X) → b ≡ true → (if b then Some x else None) ≡ Some x
chosen true x h = refl
chosen false x h = cc

thousand_back : (n : ℕ) → IsInRange 1 1000 n → thousand_of (pos n) ≡ Some n
thousand_back n h = chosen (int_le (pos 1) (pos n) && int_le (pos n) (pos 1000)) n (and_from (int_le (pos 1) (pos n)) (int_le (pos n) (pos 1000)) (grind (arith, ints, h)) (grind (arith, ints, h)))

place_back : (most : ℕ) (k : ℤ) → is_place_to most k ≡ true → place_in most (whole k) ≡ Some k
place_back most k h = chosen (is_place_to most k) k h

month_back : (m : ℤ) → is_month m ≡ true → month_in (month_data m) ≡ Some m
month_back (negsuc k) h = cc
month_back (pos k) h =
    let p = and_parts (int_le (pos 1) (pos k)) (int_le (pos k) (pos 12)) h in
    let low : 1 ≤ k = grind (arith, ints, p.0) in
    let high : k ≤ 12 = grind (arith, ints, p.1) in
    ap (option_and_then month_of_number) (decimal_back k (omega arith)) ∙ chosen (nat_le 1 k && nat_le k 12) (pos k) (and_from (nat_le 1 k) (nat_le k 12) (grind (arith, nat_tests)) (grind (arith, nat_tests)))

nth_back : (f : Freq) (nth : Option ℤ) → is_nth f nth ≡ true → nth_in f (present (nth_data nth)) ≡ Some nth
nth_back f None h = refl
nth_back Daily (Some k) h = cc
nth_back Weekly (Some k) h = cc
nth_back Monthly (Some k) h = ap (option_map (λ j. Some j)) (place_back 53 k h)
nth_back Yearly (Some k) h = ap (option_map (λ j. Some j)) (place_back 53 k h)

nday_back : (f : Freq) (x : NDay) → is_nday f x ≡ true → nday_in f (nday_data x) ≡ Some x
nday_back f x h =
    let p = and_parts (nat_lt x.day 7) (is_nth f x.nth) h in
    rw (weekday_back_at x.day (grind (arith, nat_tests, p.0)), nth_back f x.nth p.1) refl

-- Lists.

module _ {X : Type 0} (f : Data → Option X) (g : X → Data) (p : X → Bool) (back : (x : X) → p x ≡ true → f (g x) ≡ Some x) where
  all_back : (xs : List X) → list_all p xs ≡ true → all_some f (map g xs) ≡ Some xs
  all_back [] h = refl
  all_back (x ∷ xs) h = let q = and_parts (p x) (list_all p xs) h in rw (back x q.0, all_back xs q.1) refl

  pub list_back : (xs : List X) → list_all p xs ≡ true → each_in f (present (list (items_of (map g xs)))) ≡ Some xs
  list_back [] h = refl
  list_back (x ∷ xs) h = ap (all_some f) (items_back (map g (x ∷ xs))) ∙ all_back (x ∷ xs) h

end_back : (e : End) → is_end e ≡ true → end_in (present (count_data e)) (present (until_data e)) ≡ Some e
end_back Never h = refl
end_back (Count c) h =
    let p = and_parts (nat_le 1 c) (nat_le c 1000) h in
    ap (option_map (λ n. Count n)) (thousand_back c (grind (arith, nat_tests, p.0), grind (arith, nat_tests, p.1)))
end_back (Until w) h = ap (option_map (λ n. Until n)) (local_back w h).local

-- Implied parts, filled in once more.

some_left : {X : Type 0} (x : X) (xs : List X) → is_empty (x ∷ xs) ≡ false
some_left x xs = grind (arith, nat_tests)

module _ (n : ℤ) (i w : ℕ) (e : End) (sk : Skip) (bs : List ℤ) where
  abbrev given : Freq → List NDay → List ℤ → List ℤ → List ℤ → RuleParts
  given f ds md m yd = rule_with f i w e sk ds md m yd bs

  again : (f : Freq) (ds : List NDay) (md m yd : List ℤ) → filled n (filled n (given f ds md m yd)) ≡ filled n (given f ds md m yd)
  again Daily ds md m yd = refl
  again Weekly [] md m yd = refl
  again Weekly (d ∷ ds) md m yd = simp (some_left d ds) refl
  again Monthly [] [] m yd = refl
  again Monthly [] (x ∷ xs) m yd = simp (some_left x xs) refl
  again Monthly (d ∷ ds) md m yd = simp (some_left d ds) refl
  again Yearly ds md [] (z ∷ zs) = simp (some_left z zs) refl
  again Yearly ds md (y ∷ ys) (z ∷ zs) = simp (some_left y ys, some_left z zs) refl
  again Yearly [] [] [] [] = refl
  again Yearly [] [] (y ∷ ys) [] = simp (some_left y ys) refl
  again Yearly [] (x ∷ xs) [] [] = simp (some_left x xs) refl
  again Yearly [] (x ∷ xs) (y ∷ ys) [] = simp (some_left x xs, some_left y ys) refl
  again Yearly (d ∷ ds) [] [] [] = simp (some_left d ds) refl
  again Yearly (d ∷ ds) [] (y ∷ ys) [] = simp (some_left d ds, some_left y ys) refl
  again Yearly (d ∷ ds) (x ∷ xs) [] [] = simp (some_left d ds, some_left x xs) refl
  again Yearly (d ∷ ds) (x ∷ xs) (y ∷ ys) [] = simp (some_left d ds, some_left y ys) refl

  settled : (f : Freq) (ds : List NDay) (md m yd : List ℤ) → is_settled (filled n (given f ds md m yd)) ≡ true
  settled Daily ds md m yd = refl
  settled Weekly ds md m yd = refl
  settled Monthly ds md m yd = refl
  settled Yearly ds md [] (z ∷ zs) = simp (some_left z zs) refl
  settled Yearly ds md (y ∷ ys) (z ∷ zs) = simp (some_left y ys) refl
  settled Yearly [] [] [] [] = refl
  settled Yearly [] [] (y ∷ ys) [] = simp (some_left y ys) refl
  settled Yearly [] (x ∷ xs) [] [] = simp (some_left x xs) refl
  settled Yearly [] (x ∷ xs) (y ∷ ys) [] = simp (some_left y ys) refl
  settled Yearly (d ∷ ds) [] [] [] = simp (some_left d ds) refl
  settled Yearly (d ∷ ds) [] (y ∷ ys) [] = simp (some_left y ys) refl
  settled Yearly (d ∷ ds) (x ∷ xs) [] [] = simp (some_left x xs) refl
  settled Yearly (d ∷ ds) (x ∷ xs) (y ∷ ys) [] = simp (some_left y ys) refl

-- What an object that was written says: each member as it stands there.

abbrev said : Freq → ℕ → ℕ → End → Skip → List NDay → List ℤ → List ℤ → List ℤ → List ℤ → Readings
said f i w e sk ds md m yd bs = record {
  frequency = frequency_named (frequency_text f);
  interval = thousand_of (pos i);
  week_start = weekday_named (weekday_text w);
  end = end_in (present (count_data e)) (present (until_data e));
  by_day = option_and_then (λ g. each_in (nday_in g) (present (list (items_of (map nday_data ds))))) (frequency_named (frequency_text f));
  by_month_day = each_in (place_in 31) (present (list (items_of (map whole md))));
  by_month = each_in month_in (present (list (items_of (map month_data m))));
  by_year_day = each_in (place_in 366) (present (list (items_of (map whole yd))));
  by_set = each_in (place_in 366) (present (list (items_of (map whole bs))));
  skip = Some sk;
}

module _ (f : Freq) (i w : ℕ) (e : End) (ds : List NDay) (md m bs : List ℤ) where
  -- the two members that may be left out
  saying : (sk : Skip) (yd : List ℤ) → let d = rule_data (rule_with f i w e sk ds md m yd bs) in (is_rule_object d ≡ true) × (readings_of d ≡ said f i w e sk ds md m yd bs)
  unfolding rule_data skip_named
  saying Omit [] = (refl, refl)
  saying Backward [] = (refl, refl)
  saying Forward [] = (refl, refl)
  saying Omit (z ∷ zs) = (refl, refl)
  saying Backward (z ∷ zs) = (refl, refl)
  saying Forward (z ∷ zs) = (refl, refl)

parts_back : (r : Rule) → parts_read (said r.frequency r.interval r.week_start r.end r.skip r.by_day r.by_month_day r.by_month r.by_year_day r.by_set) ≡ Some (parts_of r)
unfolding parts_read
parts_back r =
    let f = r.frequency in
    let a = and_parts (list_all (is_nday f) r.by_day) _ r.by_parts_in in
    let b = and_parts (list_all (is_place_to 31) r.by_month_day) _ a.1 in
    let c = and_parts (list_all is_month r.by_month) (list_all (is_place_to 366) r.by_set) b.1 in
    let y = and_parts (is_empty r.by_year_day || has_years f) (list_all (is_place_to 366) r.by_year_day) r.year_days_in in
    rw (
      frequency_back f,
      thousand_back r.interval r.interval_in,
      weekday_back_at r.week_start r.week_start_in,
      end_back r.end r.end_in,
      list_back (nday_in f) nday_data (is_nday f) (nday_back f) r.by_day a.0,
      list_back (place_in 31) whole (is_place_to 31) (place_back 31) r.by_month_day b.0,
      list_back month_in month_data is_month month_back r.by_month c.0,
      list_back (place_in 366) whole (is_place_to 366) (place_back 366) r.by_year_day y.1,
      list_back (place_in 366) whole (is_place_to 366) (place_back 366) r.by_set c.1,
    ) refl

both_chosen : {X : Type 0} (b c : Bool) (x y : X) → b ≡ true → c ≡ true → x ≡ y → (if b && c then Some x else None) ≡ Some y
both_chosen true true x y h k e = ap Some e
both_chosen true false x y h k e = cc
both_chosen false c x y h k e = cc

settles : (n : ℤ) (p : RuleParts) → is_settled p ≡ true → fits_frequency p ≡ true → filled n p ≡ p → settled_rule n p ≡ Some p
settles n p still fits same =
    both_chosen (is_settled p) (fits_frequency (filled n p)) (filled n p) p still (subst (λ x. fits_frequency x ≡ true) (sym same) fits) same

-- a rule whose implied parts are filled in is read back
filled_back : (r : Rule) (n : ℤ) → is_settled (parts_of r) ≡ true → fits_frequency (parts_of r) ≡ true → filled n (parts_of r) ≡ parts_of r
    → rule_in n (rule_data (parts_of r)) ≡ Some (parts_of r)
unfolding rule_in
filled_back r n still fits same =
    let d = rule_data (parts_of r) in
    let here = saying r.frequency r.interval r.week_start r.end r.by_day r.by_month_day r.by_month r.by_set r.skip r.by_year_day in
    ap (λ b. if b then option_and_then (settled_rule n) (parts_read (readings_of d)) else None) here.0
    ∙ ap (λ x. option_and_then (settled_rule n) (parts_read x)) here.1
    ∙ ap (option_and_then (settled_rule n)) (parts_back r)
    ∙ settles n (parts_of r) still fits same

pub read_back : (r : Rule) (n : ℤ) (d : Data) → rule_in n d ≡ Some (parts_of r) → rule_in n (rule_data (parts_of r)) ≡ Some (parts_of r)
read_back r n d h =
    let q = made n d (parts_of r) h in
    let p = q.0 in
    let same = again n p.interval p.week_start p.end p.skip p.by_set p.frequency p.by_day p.by_month_day p.by_month p.by_year_day in
    let still = settled n p.interval p.week_start p.end p.skip p.by_set p.frequency p.by_day p.by_month_day p.by_month p.by_year_day in
    filled_back r n (subst (λ x. is_settled x ≡ true) q.1.filled still) q.1.fits (subst (λ x. filled n x ≡ x) q.1.filled same)
