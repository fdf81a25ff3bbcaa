-- The step of a loop that pushes what is made of each element.
use Rattle.std.proofs.Common.{◌≡◌, ◌∙◌, ℕ, ◌+◌, ◌<◌, List, [], ◌∷◌, ◌++◌, drop, get_or, length, sym, ap}
use Rattle.std.proofs.lemmas.List.{append_assoc, drop_more}

module _ {A B : Type 0} (made : List A → List B) (one : A → B) (steps : (x : A) (xs : List A) → made (x ∷ xs) ≡ one x ∷ made xs) where
  pub pushed : (xs : List A) (k : ℕ) (x : A) (now next all : List B) → k < length xs → x ≡ get_or xs k x → next ≡ now ++ one x ∷ []
      → now ++ made (drop k xs) ≡ all → next ++ made (drop (k + 1) xs) ≡ all
  pushed xs k x now next all l here is h =
      let rest = made (drop (k + 1) xs) in
      ap (λ ys. ys ++ rest) is ∙ append_assoc now (one x ∷ []) rest
      ∙ ap (λ y. now ++ one y ∷ rest) here
      ∙ ap (λ ys. now ++ ys) (sym (ap made (drop_more xs k x l) ∙ steps (get_or xs k x) (drop (k + 1) xs))) ∙ h
