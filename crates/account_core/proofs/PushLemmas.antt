-- Staged changes that become entries, one after the other.
use Rattle.std.proofs.Common.{◌≡◌, ◌+◌, ℕ, List, [], ◌∷◌, ◌++◌, true, append_assoc, drop, get_or, length, map, add-zero, refl, sym, ap, ◌∙◌}
use Rattle.std.proofs.lemmas.Bool.{and_parts}
use Rattle.std.proofs.lemmas.List.{drop_at, drop-drop, drop-map, get_or-drop}
use Rattle.spec_history.specs.declared.entry.Change.{Change}
use Rattle.spec_snapshots.specs.Numbered.{are_numbered, is_numbered}

-- what is left of the changes, and the next of them
pub next_left : {X : Type 0} (all yielded : List X) (x : X) (rest : List X) → all ≡ yielded ++ x ∷ rest → drop (length yielded) all ≡ x ∷ rest
next_left all yielded x rest is = ap (drop (length yielded)) is ∙ drop_at yielded (x ∷ rest) (length yielded) refl

module _ {X Y : Type 0} (f : X → Y) (g : Change → Y) where
  front_of : (l : List X) (n : ℕ) (x : X) → get_or l n x ≡ get_or (drop n l) 0 x
  front_of l n x = sym (get_or-drop n l 0 x ∙ ap (λ m. get_or l m x) (add-zero n))

  value_of : (l : List X) (x : X) (y : Y) (ys : List Y) → map f l ≡ y ∷ ys → f (get_or l 0 x) ≡ y
  value_of [] x y ys h = absurd (cc h)
  value_of (z ∷ l) x y ys h = cc h

  -- what was read of the next
  pub read_next : (first now : List X) (all : List Change) (place : ℕ) (x : X) (c : Change) (rest : List Change) → map f first ≡ map g all → drop place now ≡ drop place first → drop place all ≡ c ∷ rest
      → x ≡ get_or now place x → f x ≡ g c
  read_next first now all place x c rest read same left is =
      ap f (is ∙ front_of now place x ∙ ap (λ l. get_or l 0 x) same)
      ∙ value_of (drop place first) x (g c) (map g rest) (sym (drop-map f place first) ∙ ap (drop place) read ∙ drop-map g place all ∙ ap (map g) left)

-- the next change is numbered, and so are those behind it
pub numbered_parts : (before : List Change) (all yielded : List Change) (c : Change) (rest : List Change) → all ≡ yielded ++ c ∷ rest → are_numbered before (drop (length yielded) all) ≡ true
    → (is_numbered before c ≡ true) × (are_numbered (before ++ c ∷ []) rest ≡ true)
numbered_parts before all yielded c rest is h = and_parts (is_numbered before c) (are_numbered (before ++ c ∷ []) rest) (sym (ap (are_numbered before) (next_left all yielded c rest is)) ∙ h)

-- what is left behind one more
pub left_behind : {X : Type 0} (all yielded : List X) (x : X) (rest : List X) → all ≡ yielded ++ x ∷ rest → drop (length (yielded ++ x ∷ [])) all ≡ rest
left_behind all yielded x rest is =
    ap (drop (length (yielded ++ x ∷ []))) (is ∙ sym (append_assoc yielded (x ∷ []) rest)) ∙ drop_at (yielded ++ x ∷ []) rest (length (yielded ++ x ∷ [])) refl

-- behind one more both lists are the same
pub same_behind : {X : Type 0} (first now next : List X) (place place' : ℕ) → place' ≡ place + 1 → drop place now ≡ drop place first → drop (place + 1) next ≡ drop (place + 1) now → drop place' next ≡ drop place' first
same_behind first now next place place' is same later =
    ap (λ n. drop n next) is ∙ later ∙ sym (drop-drop 1 place now) ∙ ap (drop 1) same ∙ drop-drop 1 place first ∙ ap (λ n. drop n first) (sym is)
