-- The values of fields, one field after the other.
use Rattle.std.proofs.Common.{◌≡◌, ℕ, ◌+◌, ◌<◌, List, [], ◌∷◌, ◌++◌, length, get_or, take, drop, map, fold, cond, Bool, true, false, refl, sym, ap, ◌∙◌, arith, add-one, drop-cons, append-nil, append_assoc}
use Rattle.std.specs.Prelude.{◌==◌, ◌&&◌, ◌||◌}
use Rattle.std.specs.List.{list_any}
use Rattle.std.proofs.lemmas.Bool.Decides.{nat_tests}
use Rattle.std.proofs.lemmas.List.Sums.{fold-append}
use Rattle.std.proofs.lemmas.List.{take_more}
use Rattle.spec_http.specs.Fields.{NamedValue, same_word, value_if_named, values_of}
use Rattle.spec_http.specs.Messages.{path_of}

-- ---- fields

abbrev pub if_named : Bool → List ℕ → List (List ℕ)
if_named t value = cond t (value ∷ []) []

module _ {A : Type 0} (name : List ℕ) (h : A → NamedValue) (xs : List A) (i : ℕ) (d : A) where
  pub values_at : i < length xs → values_of name (map h (drop i xs)) ≡ value_if_named name (h (get_or xs i d)) ++ values_of name (map h (drop (i + 1) xs))
  values_at k =
      let here : drop i xs ≡ get_or xs i d ∷ drop (i + 1) xs = rw (add-one, drop-cons xs i d) refl in
      ap (λ l. values_of name (map h l)) here

  pub value_here : i < length xs → same_word (h (get_or xs i d)).0 name ≡ true → values_of name (map h (drop i xs)) ≡ (h (get_or xs i d)).1 ∷ values_of name (map h (drop (i + 1) xs))
  value_here k e = values_at k ∙ ap (λ t. if_named t (h (get_or xs i d)).1 ++ values_of name (map h (drop (i + 1) xs))) e

  pub value_elsewhere : i < length xs → same_word (h (get_or xs i d)).0 name ≡ false → values_of name (map h (drop i xs)) ≡ values_of name (map h (drop (i + 1) xs))
  value_elsewhere k e = values_at k ∙ ap (λ t. if_named t (h (get_or xs i d)).1 ++ values_of name (map h (drop (i + 1) xs))) e

-- a test on the values of one field, and of the others
any_if : (p : List ℕ → Bool) (t : Bool) (value : List ℕ) (vs : List (List ℕ)) → list_any p (if_named t value ++ vs) ≡ (t && p value) || list_any p vs
any_if p true value vs = refl
any_if p false value vs = refl

module _ {A : Type 0} (name : List ℕ) (p : List ℕ → Bool) (h : A → NamedValue) (xs : List A) (i : ℕ) (d : A) where
  any_at : i < length xs → list_any p (values_of name (map h (drop i xs))) ≡ (same_word (h (get_or xs i d)).0 name && p (h (get_or xs i d)).1) || list_any p (values_of name (map h (drop (i + 1) xs)))
  any_at k = ap (list_any p) (values_at name h xs i d k) ∙ any_if p (same_word (h (get_or xs i d)).0 name) (h (get_or xs i d)).1 (values_of name (map h (drop (i + 1) xs)))

  pub any_here : i < length xs → (same_word (h (get_or xs i d)).0 name && p (h (get_or xs i d)).1) ≡ true → list_any p (values_of name (map h (drop i xs))) ≡ true
  any_here k e = any_at k ∙ ap (λ t. t || list_any p (values_of name (map h (drop (i + 1) xs)))) e

  pub any_elsewhere : i < length xs → (same_word (h (get_or xs i d)).0 name && p (h (get_or xs i d)).1) ≡ false
      → list_any p (values_of name (map h (drop i xs))) ≡ list_any p (values_of name (map h (drop (i + 1) xs)))
  any_elsewhere k e = any_at k ∙ ap (λ t. t || list_any p (values_of name (map h (drop (i + 1) xs)))) e

-- a fold over the values, with one field more
pub fold_values : {A Y : Type 0} (f : Y → List ℕ → Y) (name : List ℕ) (h : A → NamedValue) (xs : List A) (i : ℕ) (d : A) (y z all : Y) → i < length xs
    → z ≡ fold f y (value_if_named name (h (get_or xs i d))) → fold f y (values_of name (map h (drop i xs))) ≡ all → fold f z (values_of name (map h (drop (i + 1) xs))) ≡ all
fold_values f name h xs i d y z all k e inv =
    ap (λ w. fold f w (values_of name (map h (drop (i + 1) xs)))) e
    ∙ sym (fold-append f y (value_if_named name (h (get_or xs i d))) (values_of name (map h (drop (i + 1) xs))))
    ∙ sym (ap (fold f y) (values_at name h xs i d k)) ∙ inv

-- ---- paths

is_mark : (b : ℕ) → b ≡ 63 → (b == 63) ≡ true
is_mark b h = grind (arith, nat_tests)

no_mark : (b : ℕ) → (b ≡ 63 → ⊥) → (b == 63) ≡ false
no_mark b h = grind (arith, nat_tests)

at_byte : (bytes : List ℕ) (i : ℕ) → i < length bytes → drop i bytes ≡ get_or bytes i 0 ∷ drop (i + 1) bytes
at_byte bytes i h = rw (add-one, drop-cons bytes i 0) refl

path_at : (target : List ℕ) (i : ℕ) → i < length target → path_of (drop i target) ≡ cond (get_or target i 0 == 63) [] (get_or target i 0 ∷ path_of (drop (i + 1) target))
path_at target i k = ap path_of (at_byte target i k)

pub path_here : (target : List ℕ) (i : ℕ) → i < length target → get_or target i 0 ≡ 63 → take i target ++ path_of (drop i target) ≡ path_of target → take i target ≡ path_of target
path_here target i k e inv =
    sym (append-nil (take i target)) ∙ ap (λ l. take i target ++ l) (sym (path_at target i k ∙ ap (λ t. cond t [] (get_or target i 0 ∷ path_of (drop (i + 1) target))) (is_mark (get_or target i 0) e))) ∙ inv

pub path_next : (target : List ℕ) (i : ℕ) → i < length target → (get_or target i 0 ≡ 63 → ⊥) → take i target ++ path_of (drop i target) ≡ path_of target
    → take (i + 1) target ++ path_of (drop (i + 1) target) ≡ path_of target
path_next target i k e inv =
    ap (λ l. l ++ path_of (drop (i + 1) target)) (take_more target i 0 k) ∙ append_assoc (take i target) (get_or target i 0 ∷ []) (path_of (drop (i + 1) target))
    ∙ ap (λ l. take i target ++ l) (sym (path_at target i k ∙ ap (λ t. cond t [] (get_or target i 0 ∷ path_of (drop (i + 1) target))) (no_mark (get_or target i 0) e))) ∙ inv
