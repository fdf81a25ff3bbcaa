-- What is left of a list whose front was yielded.
use Rattle.std.proofs.Common.{◌≡◌, ◌<◌, ◌+◌, ◌++◌, ◌∷◌, ◌∙◌, ℕ, suc, List, add-one, ap, drop, get_or, length, map, sym, take}
use Rattle.std.proofs.lemmas.List.{drop_more, map-id, take-append-drop}

module _ {X : Type 0} where
  -- the list is what was yielded, the next item and the rest
  pub behind : (all yielded : List X) (x : X) → map (λ y. y) yielded ≡ take (length yielded) all → (length yielded < length all) × (x ≡ get_or all (length yielded) x)
      → all ≡ yielded ++ x ∷ drop (suc (length yielded)) all
  behind all yielded x front at =
      sym (take-append-drop (length yielded) all)
      ∙ ap (λ (xs : List X). xs ++ drop (length yielded) all) (sym front ∙ map-id yielded)
      ∙ ap (λ (xs : List X). yielded ++ xs)
      (drop_more all (length yielded) x at.0 ∙ ap (λ (y : X). y ∷ drop (length yielded + 1) all) (sym at.1) ∙ ap (λ (n : ℕ). x ∷ drop n all) (add-one (length yielded)))
