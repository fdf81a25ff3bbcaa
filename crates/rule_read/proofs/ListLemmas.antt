-- Lists of values, and what their items pass.
use Rattle.std.proofs.Common.{◌≡◌, ◌==◌, ◌&&◌, List, [], ◌∷◌, Bool, true, false, Option, Some, None, length, map, refl, sym, ap, ◌∙◌, option_and_then, option_map}
use Rattle.std.specs.List.{list_all}
use Rattle.std.proofs.lemmas.Bool.{and_from}
use Rattle.std.proofs.lemmas.Bool.Decides.{nat_tests}
use Rattle.std.proofs.Common.{arith}
use Rattle.std.proofs.lemmas.Option.{same_Some}
use Rattle.spec_json.specs.Data.{Data, list, items_of}
use Rattle.spec_json.specs.Parts.{all_some, as_list}
use Rattle.spec_json.specs.TreeData.{data_of}
use Rattle.spec_json.specs.declared.tree.Tree.{Tree}
use Rattle.spec_json.specs.Number.{number_in}
use Rattle.spec_json.specs.Parts.{as_text, as_whole}
use Rattle.spec_series.specs.declared.by_part.Freq.{Freq}
use Rattle.spec_series.specs.declared.by_part.Freq.TheVariants.{Daily, Weekly, Monthly, Yearly}
use Rattle.spec_series.specs.declared.by_part.NDay.{NDay}
use Rattle.spec_series.specs.RuleLimits.{is_month, is_nday, is_nth, is_place_to}
use Rattle.spec_series.specs.RuleObjects.{each_in, is_absent, is_nday_object, month_in, month_of_number, nday_in, nday_of, nth_in, place_in, place_of, present_at, weekday_in, weekday_named}
use Rattle.std.specs.Option.{option_map_or}
use Rattle.std.proofs.lemmas.Bool.{and_parts}
use Rattle.std.proofs.lemmas.Int.{ints}
use Rattle.std.proofs.Common.{ℕ, ℤ, pos, int_le, nat_le, nat_lt, codes, subst, if◌then◌else◌}

pub empty_is : (xs : List Tree) → (length xs == 0) ≡ is_absent (list (items_of (map data_of xs)))
empty_is [] = refl
empty_is (x ∷ xs) = grind (arith, nat_tests)

-- what f gives passes p
module _ {X : Type 0} (f : Data → Option X) (p : X → Bool) (pass : (d : Data) (x : X) → f d ≡ Some x → p x ≡ true) where
  first_pass : (d : Data) (ds : List Data) (y : Option X) → f d ≡ y → ((ys : List X) → all_some f ds ≡ Some ys → list_all p ys ≡ true)
      → (ys : Option (List X)) → all_some f ds ≡ ys → (xs : List X) → option_and_then (λ z. option_map (λ zs. z ∷ zs) ys) y ≡ Some xs → list_all p xs ≡ true
  first_pass d ds None e rest ys g xs h = cc
  first_pass d ds (Some y) e rest None g xs h = cc
  first_pass d ds (Some y) e rest (Some ys) g xs h =
      ap (list_all p) (sym (same_Some (y ∷ ys) xs h)) ∙ and_from (p y) (list_all p ys) (pass d y e) (rest ys g)

  all_pass : (ds : List Data) (xs : List X) → all_some f ds ≡ Some xs → list_all p xs ≡ true
  all_pass [] xs h = ap (list_all p) (sym (same_Some [] xs h))
  all_pass (d ∷ ds) xs h = first_pass d ds (f d) refl (all_pass ds) (all_some f ds) refl xs h

  list_pass : (o : Option (List Data)) (xs : List X) → option_and_then (all_some f) o ≡ Some xs → list_all p xs ≡ true
  list_pass None xs h = cc
  list_pass (Some ds) xs h = all_pass ds xs h

  pub each_pass : (v : Option Data) (xs : List X) → Some xs ≡ each_in f v → list_all p xs ≡ true
  each_pass None xs h = ap (list_all p) (same_Some xs [] h)
  each_pass (Some d) xs h = list_pass (as_list d) xs (sym h)

weekday_by : (a b c d e f g : Bool) (k : ℕ) → (if a then Some 0 else (if b then Some 1 else (if c then Some 2 else (if d then Some 3 else (if e then Some 4 else (if f then Some 5 else (if g then Some 6 else None))))))) ≡ Some k → nat_lt k 7 ≡ true
weekday_by true b c d e f g k h = ap (λ n. nat_lt n 7) (sym (same_Some 0 k h))
weekday_by false true c d e f g k h = ap (λ n. nat_lt n 7) (sym (same_Some 1 k h))
weekday_by false false true d e f g k h = ap (λ n. nat_lt n 7) (sym (same_Some 2 k h))
weekday_by false false false true e f g k h = ap (λ n. nat_lt n 7) (sym (same_Some 3 k h))
weekday_by false false false false true f g k h = ap (λ n. nat_lt n 7) (sym (same_Some 4 k h))
weekday_by false false false false false true g k h = ap (λ n. nat_lt n 7) (sym (same_Some 5 k h))
weekday_by false false false false false false true k h = ap (λ n. nat_lt n 7) (sym (same_Some 6 k h))
weekday_by false false false false false false false k h = cc

place_of_by : (most : ℕ) (n k : ℤ) (b : Bool) → is_place_to most n ≡ b → (if b then Some n else None) ≡ Some k → is_place_to most k ≡ true
place_of_by most n k true e h = ap (is_place_to most) (sym (same_Some n k h)) ∙ e
place_of_by most n k false e h = cc

place_by : (most : ℕ) (o : Option ℤ) (k : ℤ) → option_and_then (place_of most) o ≡ Some k → is_place_to most k ≡ true
place_by most None k h = cc
place_by most (Some n) k h = place_of_by most n k _ refl h

month_of_by : (n : ℕ) (m : ℤ) (b : Bool) → (nat_le 1 n && nat_le n 12) ≡ b → (if b then Some (pos n) else None) ≡ Some m → is_month m ≡ true
month_of_by n m true e h =
    let p = and_parts (nat_le 1 n) (nat_le n 12) e in
    let same : pos n ≡ m = same_Some (pos n) m h in
    subst (λ z. is_month z ≡ true) same (and_from (int_le (pos 1) (pos n)) (int_le (pos n) (pos 12)) (grind (arith, ints, nat_tests, p.0)) (grind (arith, ints, nat_tests, p.1)))
month_of_by n m false e h = cc

number_by : (o : Option ℕ) (m : ℤ) → option_and_then month_of_number o ≡ Some m → is_month m ≡ true
number_by None m h = cc
number_by (Some n) m h = month_of_by n m _ refl h

text_by : (o : Option (List ℕ)) (m : ℤ) → option_and_then (λ s. option_and_then month_of_number (number_in s)) o ≡ Some m → is_month m ≡ true
text_by None m h = cc
text_by (Some s) m h = number_by (number_in s) m h

-- the items of `byDay`, `byMonthDay`, `byMonth` and `bySetPosition` are within their limits
weekday_bound : (s : List ℕ) (k : ℕ) → weekday_named s ≡ Some k → nat_lt k 7 ≡ true
unfolding weekday_named
weekday_bound s k h = weekday_by _ _ _ _ _ _ _ k h

pub place_pass : (most : ℕ) (d : Data) (k : ℤ) → place_in most d ≡ Some k → is_place_to most k ≡ true
place_pass most d k h = place_by most (as_whole d) k h

pub month_pass : (d : Data) (m : ℤ) → month_in d ≡ Some m → is_month m ≡ true
month_pass d m h = text_by (as_text d) m h

day_by : (o : Option (List ℕ)) (w : ℕ) → option_and_then weekday_named o ≡ Some w → nat_lt w 7 ≡ true
day_by None w h = cc
day_by (Some s) w h = weekday_bound s w h

pub day_pass : (o : Option Data) (w : ℕ) → option_and_then weekday_in o ≡ Some w → nat_lt w 7 ≡ true
day_pass None w h = cc
day_pass (Some d) w h = day_by (as_text d) w h

some_place_by : (f : Freq) (o : Option ℤ) (most : ℕ) (k : Option ℤ) → ((n : ℤ) → o ≡ Some n → is_place_to most n ≡ true) → option_map (λ n. Some n) o ≡ Some k → option_map_or (is_place_to most) k true ≡ true
some_place_by f None most k t h = cc
some_place_by f (Some n) most k t h = subst (λ j. option_map_or (is_place_to most) j true ≡ true) (same_Some (Some n) k h) (t n refl)

nth_pass : (f : Freq) (o : Option Data) (k : Option ℤ) → nth_in f o ≡ Some k → is_nth f k ≡ true
nth_pass f None k h = subst (λ j. is_nth f j ≡ true) (same_Some None k h) refl
nth_pass Daily (Some d) k h = cc
nth_pass Weekly (Some d) k h = cc
nth_pass Monthly (Some d) None h = refl
nth_pass Monthly (Some d) (Some n) h = some_place_by Monthly (place_in 53 d) 53 (Some n) (place_pass 53 d) h
nth_pass Yearly (Some d) None h = refl
nth_pass Yearly (Some d) (Some n) h = some_place_by Yearly (place_in 53 d) 53 (Some n) (place_pass 53 d) h

nday_of_by : (f : Freq) (day : Option ℕ) (nth : Option (Option ℤ)) (x : NDay) → ((w : ℕ) → day ≡ Some w → nat_lt w 7 ≡ true) → ((k : Option ℤ) → nth ≡ Some k → is_nth f k ≡ true) → nday_of day nth ≡ Some x → is_nday f x ≡ true
nday_of_by f None nth x s t h = cc
nday_of_by f (Some w) None x s t h = cc
nday_of_by f (Some w) (Some k) x s t h =
    subst (λ y. is_nday f y ≡ true) (same_Some (record { day = w; nth = k }) x h) (and_from (nat_lt w 7) (is_nth f k) (s w refl) (t k refl))

nday_by : (f : Freq) (b : Bool) (day nth : Option Data) (x : NDay) → (if b then nday_of (option_and_then weekday_in day) (nth_in f nth) else None) ≡ Some x → is_nday f x ≡ true
nday_by f false day nth x h = cc
nday_by f true day nth x h = nday_of_by f (option_and_then weekday_in day) (nth_in f nth) x (day_pass day) (nth_pass f nth) h

pub nday_pass : (f : Freq) (d : Data) (x : NDay) → nday_in f d ≡ Some x → is_nday f x ≡ true
nday_pass f d x h = nday_by f (is_nday_object d) (present_at (codes "day") d) (present_at (codes "nthOfPeriod") d) x h

-- the place of a day in its month or year is read by the frequency
pub days_pass : (o : Option Data) (f : Freq) (g : Option Freq) (ds : List NDay) → g ≡ Some f → option_and_then (λ h. each_in (nday_in h) o) g ≡ Some ds → list_all (is_nday f) ds ≡ true
days_pass o f g ds e h = each_pass (nday_in f) (is_nday f) (nday_pass f) o ds (sym (rw e at h))
