-- A binary search in what was sorted finds the least item from a number on.
use Rattle.std.proofs.Common.{◌≡◌, ◌∙◌, ℕ, ◌<◌, ◌≤◌, false, ℤ, ◌<ℤ◌, List, length, get_or, Option, MatchOption, Bor, Some, None, IsNone, IfSome, Ok, Err, refl, sym, ap, subst, arith, ⊎_elim, Less, Equal, Greater}
use Rattle.std.specs.Cmp.{int_cmp_is, int_ranks}
use Rattle.std.specs.Ordering.{MatchOrdering, int_cmp, int_eq, is_eq, ordering_index}
use Rattle.std.specs.Option.{option_copied}
use Rattle.std.specs.List.{HoldsAt}
use Rattle.std.specs.List.Sorted.{IsBinarySearchResult, IsSorted}
use Rattle.std.proofs.lemmas.Bool.{cases_lt, false_from_ne_true}
use Rattle.std.proofs.lemmas.Bool.Decides.{Decides-int_eq}
use Rattle.std.proofs.lemmas.Cmp.{int_cmp_total}
use Rattle.std.proofs.lemmas.Int.{ints}
use Rattle.std.proofs.lemmas.List.Folds.{list_any_at, list_any_none}
use Rattle.std.proofs.lemmas.List.Sorted.{searchable_from_sorted}
use Rattle.spec_series.specs.Items.{is_item, IsLeastItem, NoneFrom}

less : (x y : ℤ) → int_cmp x y ≡ Less → x <ℤ y
less x y e = subst (λ o. MatchOrdering o (x <ℤ y) (x ≡ y) (y <ℤ x)) e (int_ranks x y)

greater : (x y : ℤ) → int_cmp x y ≡ Greater → y <ℤ x
greater x y e = subst (λ o. MatchOrdering o (x <ℤ y) (x ≡ y) (y <ℤ x)) e (int_ranks x y)

apart : (x m : ℤ) → (x ≡ m → ⊥) → int_eq x m ≡ false
apart x m ne = false_from_ne_true (int_eq x m) (λ h. ne ((Decides-int_eq x m).0 h))

-- the number itself
pub found_itself : (xs : List ℤ) (number : ℤ) (i : ℕ) → i < length xs → IsBinarySearchResult (λ y. int_cmp y number) xs (Ok i) → IsLeastItem xs number number
found_itself xs number i lt h = record {
  from = omega (arith, ints);
  item = list_any_at (λ k. int_eq k number) xs i number lt (ap is_eq (h number));
  least = λ m low below. absurd (omega (arith, ints, low, below));
}

-- where it isn't there, those before its place are less
pub none_so_great : (xs : List ℤ) (number : ℤ) (i : ℕ) → IsSorted int_cmp xs → IsBinarySearchResult (λ y. int_cmp y number) xs (Err i) → length xs ≤ i → NoneFrom xs number
none_so_great xs number i up h past m low =
    let parts = h (searchable_from_sorted int_cmp_total (λ x. x) xs number up) in
    list_any_none (λ k. int_eq k m) xs
    (λ k d l. apart (get_or xs k d) m (λ same. omega (arith, ints, less (get_or xs k d) number (parts.0 k d (omega arith) (omega (arith, l, past))), same, low)))

-- and no item behind the place is less than the one there
pub next_item : (xs : List ℤ) (number : ℤ) (i : ℕ) (k : ℤ) → IsSorted int_cmp xs → IsBinarySearchResult (λ y. int_cmp y number) xs (Err i) → i < length xs → ((d : ℤ) → get_or xs i d ≡ k) → IsLeastItem xs number k
next_item xs number i k up h lt here =
    let parts = h (searchable_from_sorted int_cmp_total (λ x. x) xs number up) in
    let rises = searchable_from_sorted int_cmp_total (λ x. x) xs k up in
    let high : number <ℤ k = greater k number (ap (λ x. int_cmp x number) (sym (here k)) ∙ parts.1 i k (omega arith) lt) in
    record {
      from = omega (arith, ints, high);
      item = list_any_at (λ x. int_eq x k) xs i k lt ((Decides-int_eq (get_or xs i k) k).1 (here k));
      least = λ m low below. list_any_none (λ x. int_eq x m) xs (λ j d l. apart (get_or xs j d) m (λ same.
          ⊎_elim
          (λ before. omega (arith, ints, less (get_or xs j d) number (parts.0 j d (omega arith) before), same, low))
          (λ behind.
          let equal : ordering_index (int_cmp (get_or xs i d) k) ≡ 1 = ap (λ x. ordering_index (int_cmp x k)) (here d) ∙ ap ordering_index (sym (int_cmp_is k k Equal refl)) in
          let lower : get_or xs j d <ℤ k = omega (arith, ints, same, below) in
          let small : ordering_index (int_cmp (get_or xs j d) k) ≡ 0 = ap ordering_index (sym (int_cmp_is (get_or xs j d) k Less lower)) in
          omega (arith, rises i j d behind l, equal, small))
          (cases_lt j i)));
    }

-- of lists that have the same items
pub none_alike : (xs ys : List ℤ) (number : ℤ) → ((m : ℤ) → is_item xs m ≡ is_item ys m) → NoneFrom ys number → NoneFrom xs number
none_alike xs ys number same h m low = same m ∙ h m low

pub least_alike : (xs ys : List ℤ) (number k : ℤ) → ((m : ℤ) → is_item xs m ≡ is_item ys m) → IsLeastItem ys number k → IsLeastItem xs number k
least_alike xs ys number k same h = record {
  from = h.from;
  item = same k ∙ h.item;
  least = λ m low below. same m ∙ h.least m low below;
}

-- what stands at the place, if anything does
pub none_after : (xs ys : List ℤ) (number : ℤ) (i : ℕ) (o : Option (Bor ℤ)) → ((m : ℤ) → is_item xs m ≡ is_item ys m) → IsSorted int_cmp ys
    → IsBinarySearchResult (λ y. int_cmp y number) ys (Err i) → MatchOption o (length ys ≤ i) (λ x. (i < length ys) × HoldsAt (λ y. x.now ≡ y) ys i)
    → IsNone (option_copied o) → NoneFrom xs number
none_after xs ys number i None same up h past none = none_alike xs ys number same (none_so_great ys number i up h past)
none_after xs ys number i (Some x) same up h here none = absurd (cc none)

pub some_after : (xs ys : List ℤ) (number : ℤ) (i : ℕ) (o : Option (Bor ℤ)) → ((m : ℤ) → is_item xs m ≡ is_item ys m) → IsSorted int_cmp ys
    → IsBinarySearchResult (λ y. int_cmp y number) ys (Err i) → MatchOption o (length ys ≤ i) (λ x. (i < length ys) × HoldsAt (λ y. x.now ≡ y) ys i)
    → IfSome (option_copied o) (IsLeastItem xs number)
some_after xs ys number i None same up h past = tt
some_after xs ys number i (Some x) same up h here = least_alike xs ys number x.now same (next_item ys number i x.now up h here.0 (λ d. sym (here.1 d)))
