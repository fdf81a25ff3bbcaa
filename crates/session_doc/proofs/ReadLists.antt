-- What holds of each item that was read, and how many there are.
use Rattle.std.proofs.Common.{◌≡◌, ℕ, ◌+◌, ◌≤◌, List, [], ◌∷◌, ◌++◌, Bool, true, false, nat_le, Option, Some, None, Ok, length, length-append, All, refl, ap, subst, arith}
use Rattle.std.proofs.lemmas.Bool.Decides.{nat_tests}
use Rattle.std.proofs.lemmas.List.Elements.{All-nil, All-push}
use Rattle.spec_json.specs.Data.{Data}
use Rattle.spec_site.specs.Configuration.{read_behind, read_list}

module _ {X : Type 0} (read : List X → Data → Option X) where
  each_read : (earlier : List X) (ds : List Data) (xs : List X) → read_behind read earlier ds ≡ Ok xs → length xs ≡ length earlier + length ds
  each_read earlier [] xs e = let same : earlier ≡ xs = cc in omega (arith, ap length same)
  each_read earlier (d ∷ ds) xs e = by_item (read earlier d) refl (λ x f. each_read (earlier ++ x ∷ []) ds xs f)
    where
      by_item : (o : Option X) → read earlier d ≡ o → ((x : X) → read_behind read (earlier ++ x ∷ []) ds ≡ Ok xs → length xs ≡ length (earlier ++ x ∷ []) + length ds) → length xs ≡ length earlier + length (d ∷ ds)
      by_item None is rest = let f = rw is at e in cc
      by_item (Some x) is rest = omega (arith, rest x (rw is at e), length-append earlier (x ∷ []))

  module _ (P : X → Type 0) (holds : (earlier : List X) (d : Data) (x : X) → read earlier d ≡ Some x → P x) where
    all_behind : (earlier : List X) (ds : List Data) (xs : List X) → All P earlier → read_behind read earlier ds ≡ Ok xs → All P xs
    all_behind earlier [] xs h e = let same : earlier ≡ xs = cc in subst (λ (ys : List X). All P ys) same h
    all_behind earlier (d ∷ ds) xs h e = by_item (read earlier d) refl (λ x k f. all_behind (earlier ++ x ∷ []) ds xs k f)
      where
        by_item : (o : Option X) → read earlier d ≡ o → ((x : X) → All P (earlier ++ x ∷ []) → read_behind read (earlier ++ x ∷ []) ds ≡ Ok xs → All P xs) → All P xs
        by_item None is rest = let f = rw is at e in cc
        by_item (Some x) is rest = rest x (All-push P earlier x h (holds earlier d x is)) (rw is at e)

    pub all_read : (ds : List Data) (xs : List X) → read_behind read [] ds ≡ Ok xs → All P xs
    all_read ds xs e = all_behind [] ds xs (All-nil P) e

  pub list_read : (least most : ℕ) (o : Option (List Data)) (xs : List X) → read_list least most read o ≡ Ok xs → (ds : List Data) × (length ds ≤ most) × (read_behind read [] ds ≡ Ok xs) × (least ≤ length ds)
  list_read least most None xs e = cc
  list_read least most (Some ds) xs e = by_least (nat_le least (length ds)) refl
    where
      by_most : (b : Bool) → nat_le (length ds) most ≡ b → nat_le least (length ds) ≡ true → (es : List Data) × (length es ≤ most) × (read_behind read [] es ≡ Ok xs) × (least ≤ length es)
      by_most true m l = (ds, grind (arith, nat_tests), rw (l, m) at e, grind (arith, nat_tests))
      by_most false m l = let f = rw (l, m) at e in cc

      by_least : (b : Bool) → nat_le least (length ds) ≡ b → (es : List Data) × (length es ≤ most) × (read_behind read [] es ≡ Ok xs) × (least ≤ length es)
      by_least true l = by_most (nat_le (length ds) most) refl l
      by_least false l = let f = rw l at e in cc

  pub most_read : (least most : ℕ) (o : Option (List Data)) (xs : List X) → read_list least most read o ≡ Ok xs → length xs ≤ most
  most_read least most o xs e =
      let it = list_read least most o xs e in
      omega (arith, each_read [] it.0 xs it.2, it.1)

  pub least_read : (least most : ℕ) (o : Option (List Data)) (xs : List X) → read_list least most read o ≡ Ok xs → least ≤ length xs
  least_read least most o xs e =
      let it = list_read least most o xs e in
      omega (arith, each_read [] it.0 xs it.2, it.3)
