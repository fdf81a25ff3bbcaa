-- A binary search in what was sorted tells whether an item is in a list.
use Rattle.std.proofs.Common.{◌≡◌, ℕ, ◌<◌, ◌≤◌, ◌&&◌, ◌==◌, false, ℤ, List, [], ◌∷◌, length, Option, Some, None, Result, Ok, Err, MatchResult, is_ok, refl, sym, ap, arith, ◌∙◌, ⊎_elim, Ordering, Less, Equal, Greater, nat_cmp}
use Rattle.std.specs.Cmp.{IsTotalOrder, tied_then, unsigned_tied}
use Rattle.std.specs.Cmp.Lexicographic.{options_total}
use Rattle.std.proofs.lemmas.Cmp.{int_cmp_total, nat_cmp_total, on_total, then_total}
use Rattle.std.specs.Ordering.{int_cmp, int_eq, is_eq, is_lt, ordering_then}
use Rattle.std.specs.Option.{option_cmp, option_eq}
use Rattle.std.specs.List.{AllZip, list_any}
use Rattle.std.specs.List.Sorted.{IsBinarySearchResult, IsSorted, IsSortedBy}
use Rattle.std.proofs.lemmas.Bool.{cases_lt}
use Rattle.std.proofs.lemmas.Bool.Decides.{nat_tests}
use Rattle.std.proofs.lemmas.List.Folds.{list_any_at, list_any_none}
use Rattle.std.proofs.lemmas.List.Sorted.{searchable_from_sorted}
use Rattle.std.proofs.lemmas.List.{map-id}
use Rattle.std.proofs.lemmas.Slice.Zip.{AllZip-map}
use Rattle.spec_series.specs.declared.by_part.NDay.{NDay}
pub use Rattle.std.proofs.lemmas.List.Sorted.{list_any-IsPermutation as sorted_alike}

module _ {K X : Type 0} {R : K → K → Ordering} (o : IsTotalOrder R) (key : X → K) where
  -- found, an item ties; not found, those before are less and those behind greater
  pub found_by : (xs : List X) (x : K) (r : Result ℕ ℕ) → MatchResult r (λ i. i < length xs) (λ i. i ≤ length xs) → IsSortedBy (λ a b. is_lt (R (key a) (key b))) xs
      → IsBinarySearchResult (λ y. R (key y) x) xs r → is_ok r ≡ list_any (λ y. is_eq (R (key y) x)) xs
  found_by [] x (Ok i) bound up h = grind (arith, bound)
  found_by (y ∷ ys) x (Ok i) bound up h = sym (list_any_at (λ z. is_eq (R (key z) x)) (y ∷ ys) i y bound (ap is_eq (h y)))
  found_by xs x (Err i) bound up h =
      let parts = h (searchable_from_sorted o key xs x up) in
      sym (list_any_none (λ z. is_eq (R (key z) x)) xs (λ k d l.
      ⊎_elim (λ low. ap is_eq (parts.0 k d (omega arith) low)) (λ high. ap is_eq (parts.1 k d high l)) (cases_lt k i)))

-- Days of the week, in the order of their names and then of their places.

pub ndays_total : IsTotalOrder (λ (a b : NDay). ordering_then (nat_cmp a.day b.day) (option_cmp int_cmp a.nth b.nth))
ndays_total = then_total (on_total (λ (d : NDay). d.day) nat_cmp_total) (on_total (λ (d : NDay). d.nth) (options_total int_cmp_total))

first_below : (p q : Ordering) → is_lt (ordering_then p q) ≡ false → is_lt p ≡ false
first_below Less q h = h
first_below Equal q h = refl
first_below Greater q h = refl

pub by_weekday : (xs : List NDay) → IsSorted (λ a b. ordering_then (nat_cmp a.day b.day) (option_cmp int_cmp a.nth b.nth)) xs → IsSortedBy (λ a b. is_lt (nat_cmp a.day b.day)) xs
by_weekday xs up k d low high = first_below _ _ (up k d low high)

pub weekday_tied : (d : NDay) (weekday : ℕ) → is_eq (nat_cmp d.day weekday) ≡ (weekday == d.day)
weekday_tied d weekday = unsigned_tied d.day weekday ∙ grind (arith, nat_tests)

option_tied : (a b : Option ℤ) → is_eq (option_cmp int_cmp a b) ≡ option_eq int_eq a b
option_tied None None = refl
option_tied None (Some b) = refl
option_tied (Some a) None = refl
option_tied (Some a) (Some b) = refl

pub nday_tied : (d e : NDay) → is_eq (ordering_then (nat_cmp d.day e.day) (option_cmp int_cmp d.nth e.nth)) ≡ ((e.day == d.day) && option_eq int_eq d.nth e.nth)
nday_tied d e = sym (tied_then (nat_cmp d.day e.day) (option_cmp int_cmp d.nth e.nth)) ∙ (λ i. weekday_tied d e.day i && option_tied d.nth e.nth i)

pub same_items : {X : Type 0} (xs ys : List X) → AllZip (λ x y. y ≡ x) xs ys → ys ≡ xs
same_items xs ys h = AllZip-map (λ x. x) xs ys h ∙ map-id xs
