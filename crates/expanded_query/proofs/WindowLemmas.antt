-- The window of a result whose ids are made when they are told.
use Rattle.std.proofs.Common.{◌≡◌, ◌∙◌, ◌+◌, ◌-◌, ◌<◌, ℕ, zero, suc, List, [], ◌∷◌, Bool, true, false, Option, Some, ap, cond, drop, get_or, length, map, position, refl, sym, take, arith}
use Rattle.std.proofs.lemmas.Iterator.Adapters.{position_from-zero}
use Rattle.std.proofs.lemmas.List.{drop-map, drop_more, take-map}
use Rattle.std.specs.List.{position_from}
use Rattle.spec_queries.specs.Found.{cut_out}
use Rattle.spec_queries.specs.declared.window.Cut.{Cut}

pub cut_map : {A B : Type 0} (f : A → B) (cut : Cut) (xs : List A) → map f (cut_out cut xs) ≡ cut_out cut (map f xs)
cut_map f cut xs = sym (ap (take (cut.to - cut.from)) (drop-map f cut.from xs) ∙ take-map f (cut.to - cut.from) (drop cut.from xs))

pub position_start : (t : List ℕ → Bool) (ids : List (List ℕ)) → position_from t 0 ids ≡ position t ids
position_start t ids = sym (position_from-zero t ids)

-- the step of a search for the first id that passes
module _ {A : Type 0} (t : List ℕ → Bool) (f : A → List ℕ) (xs : List A) (k : ℕ) (x : A) (l : k < length xs) (here : x ≡ get_or xs k x) where
  stepped : (b : Bool) → t (f x) ≡ b → position_from t k (map f (drop k xs)) ≡ cond b (Some k) (position_from t (k + 1) (map f (drop (k + 1) xs)))
  stepped b h =
      ap (λ ys. position_from t k (map f ys)) (drop_more xs k x l)
      ∙ ap (λ y. cond (t (f y)) (Some k) (position_from t (k + 1) (map f (drop (k + 1) xs)))) (sym here)
      ∙ ap (λ c. cond c (Some k) (position_from t (k + 1) (map f (drop (k + 1) xs)))) h

  pub first_here : {all : Option ℕ} → position_from t k (map f (drop k xs)) ≡ all → t (f x) ≡ true → Some k ≡ all
  first_here h e = sym (stepped true e) ∙ h

  pub first_behind : {all : Option ℕ} → position_from t k (map f (drop k xs)) ≡ all → t (f x) ≡ false → position_from t (k + 1) (map f (drop (k + 1) xs)) ≡ all
  first_behind h e = sym (stepped false e) ∙ h

-- lists that begin alike have the same part up to there
none_taken : {A : Type 0} (n : ℕ) → take {A = A} n [] ≡ []
none_taken zero = refl
none_taken (suc n) = refl

of_first : {A : Type 0} (from to : ℕ) (xs : List A) → take (to - from) (drop from xs) ≡ drop from (take to xs)
of_first zero to xs = let e : to - 0 ≡ to = omega arith in ap (λ n. take n xs) e
of_first (suc from) zero [] = ap (λ n. take n []) (let e : 0 - suc from ≡ 0 = omega arith in e)
of_first (suc from) zero (x ∷ xs) = ap (λ n. take n (drop from xs)) (let e : 0 - suc from ≡ 0 = omega arith in e)
of_first (suc from) (suc to) [] = none_taken (suc to - suc from)
of_first (suc from) (suc to) (x ∷ xs) = ap (λ n. take n (drop from xs)) (let e : suc to - suc from ≡ to - from = omega arith in e) ∙ of_first from to xs

pub same_part : {A : Type 0} (cut : Cut) (xs ys : List A) → take cut.to xs ≡ take cut.to ys → cut_out cut xs ≡ cut_out cut ys
same_part cut xs ys same = of_first cut.from cut.to xs ∙ ap (drop cut.from) same ∙ sym (of_first cut.from cut.to ys)
