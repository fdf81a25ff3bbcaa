-- Two lists of one length, item by item.
use Rattle.std.proofs.Common.{◌≡◌, ℕ, ◌<◌, List, [], ◌∷◌, length, map, zero, suc, get_or, refl, ap, arith}
use Rattle.std.specs.List.{zip}

module _ {A B : Type 0} where
  pub zip_length : (xs : List A) (ys : List B) → length ys ≡ length xs → length (zip xs ys) ≡ length xs
  zip_length [] ys same = refl
  zip_length (x ∷ xs) [] same = absurd (omega (arith, same))
  zip_length (x ∷ xs) (y ∷ ys) same = (let rest = zip_length xs ys (omega (arith, same)) in omega (arith, rest))

  pub zip_second : (xs : List A) (ys : List B) (n : ℕ) (p : A × B) (d : B) → length ys ≡ length xs → n < length xs → p ≡ get_or (zip xs ys) n p → p.1 ≡ get_or ys n d
  zip_second [] ys n p d same few is = absurd (omega (arith, few))
  zip_second (x ∷ xs) [] n p d same few is = absurd (omega (arith, same))
  zip_second (x ∷ xs) (y ∷ ys) zero p d same few is = ap (λ (q : A × B). q.1) is
  zip_second (x ∷ xs) (y ∷ ys) (suc n) p d same few is = zip_second xs ys n p d (omega (arith, same)) (omega (arith, few)) is

  pub seconds_again : (ps : List (A × B)) → map (λ (p : A × B). p.1) ps ≡ map (λ (p : A × B). p.1) (map (λ (p : A × B). (p.0, p.1)) ps)
  seconds_again [] = refl
  seconds_again (p ∷ ps) = ap (λ ys. p.1 ∷ ys) (seconds_again ps)

  pub firsts_again : (ps : List (A × B)) → map (λ (p : A × B). p.0) ps ≡ map (λ (p : A × B). p.0) (map (λ (p : A × B). (p.0, p.1)) ps)
  firsts_again [] = refl
  firsts_again (p ∷ ps) = ap (λ xs. p.0 ∷ xs) (firsts_again ps)
