-- A binary search tells whether a number is in a list that rises.
use Rattle.std.proofs.Common.{◌≡◌, ℕ, ◌<◌, ◌≤◌, ◌==◌, List, length, get_or, Result, Ok, Err, MatchResult, is_ok, nat_cmp, sym, ap, ◌∙◌, arith, eq-eqb, ne_eqb, ⊎_elim}
use Rattle.std.specs.List.Sorted.{IsNonDecreasing, IsBinarySearchResult}
use Rattle.std.proofs.lemmas.Bool.{cases_lt}
use Rattle.std.proofs.lemmas.List.{get_or_default}
use Rattle.std.proofs.lemmas.List.Folds.{list_any_at, list_any_none}
use Rattle.std.proofs.lemmas.List.Sorted.{searched}
use Rattle.spec_history.specs.Pages.{is_in}

-- found, it is there; not found, all before are less and all behind are greater
told : (xs : List ℕ) (x : ℕ) (r : Result ℕ ℕ) → MatchResult r (λ i. (i < length xs) × (get_or xs i 0 ≡ x)) (λ i. (i ≤ length xs) × ((k : ℕ) → k < i → get_or xs k 0 < x) × ((k : ℕ) → i ≤ k → k < length xs → x < get_or xs k 0)) → is_ok r ≡ is_in xs x
told xs x (Ok i) m = sym (list_any_at (λ n. n == x) xs i 0 m.0 (eq-eqb (get_or xs i 0) x m.1))
told xs x (Err i) m = sym (list_any_none (λ n. n == x) xs (λ k d l.
    ⊎_elim
    (λ low. let lt : get_or xs k 0 < x = m.1 k low in ap (λ n. n == x) (get_or_default xs k d 0 l) ∙ ne_eqb (get_or xs k 0) x (λ e. omega (arith, e, lt)))
    (λ high. let gt : x < get_or xs k 0 = m.2 k high l in ap (λ n. n == x) (get_or_default xs k d 0 l) ∙ ne_eqb (get_or xs k 0) x (λ e. omega (arith, e, gt)))
    (cases_lt k i)))

pub found_is : (xs : List ℕ) (x : ℕ) (r : Result ℕ ℕ) → IsNonDecreasing xs → IsBinarySearchResult (λ y. nat_cmp y x) xs r → is_ok r ≡ is_in xs x
found_is xs x r up h = told xs x r (searched xs x r h (λ i j le l. up i j 0 le l))
