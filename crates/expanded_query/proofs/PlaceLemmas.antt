-- Where one of a list stands when the list is put in order, by how many precede it.
use Rattle.std.proofs.Common.{◌≡◌, ◌∙◌, ◌+◌, ℕ, suc, List, [], ◌∷◌, ◌++◌, Bool, true, false, true≢false, Some, None, cond, not, filter, length, map, refl, sym, ap, subst, arith}
use Rattle.std.proofs.lemmas.Bool.{cond_both}
use Rattle.std.specs.Bool.{⊤}
use Rattle.std.specs.Cmp.{IsStrictWeakOrder}
use Rattle.std.specs.List.{position_from}
use Rattle.spec_json.proofs.InOrderLemmas.{Above, Up, in_order_filter, up_in_order}
use Rattle.spec_json.specs.InOrder.{in_order, put_in}
use Rattle.expanded_query.proofs.FirstLemmas.{as_long, longer_put}

module _ {X : Type 0} (lt : X → X → Bool) (o : IsStrictWeakOrder lt) (x : X) where
  -- none of the list is behind x
  abbrev pub Early : List X → Type 0
  Early [] = ⊤
  Early (y ∷ ys) = (lt x y ≡ false) × Early ys

  -- x stands at a place, and none before it is behind it
  abbrev pub Stands : List X → ℕ → Type 0
  Stands zs n = (before : List X) × ((behind : List X) × ((zs ≡ before ++ x ∷ behind) × ((length before ≡ n) × Early before)))

  abbrev less : List X → List X
  less ys = filter (λ y. lt y x) ys

  abbrev up_to : List X → List X
  up_to ys = filter (λ y. not (lt x y)) ys

  none_less : (y : X) (ys : List X) → lt y x ≡ false → Above lt y ys → length (less ys) ≡ 0
  none_less y [] h a = refl
  none_less y (z ∷ zs) h a = ap (λ b. length (cond b (z ∷ less zs) (less zs))) (o.chain z y x a.0 h) ∙ none_less y zs h a.1

  put_step : (y : X) (ys : List X) → Up lt (y ∷ ys) → Stands (put_in lt x ys) (length (less ys)) → (b : Bool) → lt y x ≡ b → Stands (put_in lt x (y ∷ ys)) (length (less (y ∷ ys)))
  put_step y ys u (before, (behind, (is, (long, early)))) true e = (
    y ∷ before,
    (
      behind,
      (
        ap (λ b. cond b (y ∷ put_in lt x ys) (x ∷ y ∷ ys)) e ∙ ap (λ l. y ∷ l) is,
        (
          ap suc long ∙ sym (ap (λ b. length (cond b (y ∷ less ys) (less ys))) e),
          (o.one_way y x e, early),
        ),
      ),
    ),
  )
  put_step y ys u rest false e = (
    [],
    (
      y ∷ ys,
      (ap (λ b. cond b (y ∷ put_in lt x ys) (x ∷ y ∷ ys)) e, (sym (ap (λ b. length (cond b (y ∷ less ys) (less ys))) e ∙ none_less y ys e u.0), tt)),
    ),
  )

  -- put among those that stood behind it
  put_there : (ys : List X) → Up lt ys → Stands (put_in lt x ys) (length (less ys))
  put_there [] u = ([], ([], (refl, (refl, tt))))
  put_there (y ∷ ys) u = put_step y ys u (put_there ys u.1) (lt y x) refl

  early_put : (r : X) (ys : List X) → Early ys → lt x r ≡ false → Early (put_in lt r ys)
  early_put r [] h e = (e, tt)
  early_put r (y ∷ ys) h e = let rest = early_put r ys h.1 e in cond_both (lt y r) (y ∷ put_in lt r ys) (r ∷ y ∷ ys) Early (λ _. (h.0, rest)) (λ _. (e, h))

  front_case : (r y : X) (ys zs : List X) → put_in lt r (ys ++ x ∷ zs) ≡ put_in lt r ys ++ x ∷ zs → (b : Bool)
      → cond b (y ∷ put_in lt r (ys ++ x ∷ zs)) (r ∷ y ∷ ys ++ x ∷ zs) ≡ cond b (y ∷ put_in lt r ys) (r ∷ y ∷ ys) ++ x ∷ zs
  front_case r y ys zs rest true = ap (λ l. y ∷ l) rest
  front_case r y ys zs rest false = refl

  put_before : (r : X) (ys zs : List X) → lt x r ≡ false → put_in lt r (ys ++ x ∷ zs) ≡ put_in lt r ys ++ x ∷ zs
  put_before r [] zs e = ap (λ b. cond b (x ∷ put_in lt r zs) (r ∷ x ∷ zs)) e
  put_before r (y ∷ ys) zs e = front_case r y ys zs (put_before r ys zs e) (lt y r)

  passes : (y r : X) → lt x y ≡ false → lt x r ≡ true → (b : Bool) → lt y r ≡ b → b ≡ true
  passes y r h e true k = refl
  passes y r h e false k = absurd (true≢false (sym e ∙ o.chain x y r h k))

  put_behind : (r : X) (ys zs : List X) → Early ys → lt x r ≡ true → put_in lt r (ys ++ x ∷ zs) ≡ ys ++ x ∷ put_in lt r zs
  put_behind r [] zs h e = ap (λ b. cond b (x ∷ put_in lt r zs) (r ∷ x ∷ zs)) e
  put_behind r (y ∷ ys) zs h e =
      ap (λ b. cond b (y ∷ put_in lt r (ys ++ x ∷ zs)) (r ∷ y ∷ ys ++ x ∷ zs)) (passes y r h.0 e (lt y r) refl) ∙ ap (λ l. y ∷ l) (put_behind r ys zs h.1 e)

  -- one more, which stood before it
  one_more : (r : X) (zs : List X) (n : ℕ) → Stands zs n → (b : Bool) → lt x r ≡ b → Stands (put_in lt r zs) (cond b n (suc n))
  one_more r zs n (before, (behind, (is, (long, early)))) true e = (before, (put_in lt r behind, (ap (put_in lt r) is ∙ put_behind r before behind early e, (long, early))))
  one_more r zs n (before, (behind, (is, (long, early)))) false e = (
    put_in lt r before,
    (behind, (ap (put_in lt r) is ∙ put_before r before behind e, (longer_put lt r before ∙ ap suc long, early_put r before early e))),
  )

  one_before : (r : X) (front back : List X) → Stands (in_order lt (front ++ x ∷ back)) (length (up_to front) + length (less back)) → (b : Bool) → lt x r ≡ b
      → Stands (in_order lt (r ∷ front ++ x ∷ back)) (length (up_to (r ∷ front)) + length (less back))
  one_before r front back s true e =
      let long = ap (λ b. length (cond (not b) (r ∷ up_to front) (up_to front))) e in
      let count : length (up_to front) + length (less back) ≡ length (up_to (r ∷ front)) + length (less back) = omega (arith, long) in
      subst (Stands (in_order lt (r ∷ front ++ x ∷ back))) count (one_more r (in_order lt (front ++ x ∷ back)) (length (up_to front) + length (less back)) s true e)
  one_before r front back s false e =
      let long = ap (λ b. length (cond (not b) (r ∷ up_to front) (up_to front))) e in
      let count : suc (length (up_to front) + length (less back)) ≡ length (up_to (r ∷ front)) + length (less back) = omega (arith, long) in
      subst (Stands (in_order lt (r ∷ front ++ x ∷ back))) count (one_more r (in_order lt (front ++ x ∷ back)) (length (up_to front) + length (less back)) s false e)

  -- behind those that are less, and of equal ones those that stood before it
  pub stands : (front back : List X) → Stands (in_order lt (front ++ x ∷ back)) (length (up_to front) + length (less back))
  stands [] back =
      let same = ap length (in_order_filter lt o (λ y. lt y x) back) ∙ as_long lt (less back) in
      let count : length (less (in_order lt back)) ≡ length (up_to []) + length (less back) = omega (arith, same) in
      subst (Stands (put_in lt x (in_order lt back))) count (put_there (in_order lt back) (up_in_order lt o back))
  stands (r ∷ front) back = one_before r front back (stands front back) (lt x r) refl

-- The first of a list whose name passes a test.
module _ {X : Type 0} (name : X → List ℕ) (u : List ℕ → Bool) where
  abbrev passing : List X → List X
  passing xs = filter (λ x. u (name x)) xs

  none_here : (x : X) (xs : List X) → length (passing (x ∷ xs)) ≡ 0 → (b : Bool) → u (name x) ≡ b → (b ≡ false) × (length (passing xs) ≡ 0)
  none_here x xs h true e = let more = ap (λ b. length (cond b (x ∷ passing xs) (passing xs))) e in absurd (omega (arith, h, more))
  none_here x xs h false e = (refl, sym (ap (λ b. length (cond b (x ∷ passing xs) (passing xs))) e) ∙ h)

  pub place_behind : (front back : List X) (x : X) (k : ℕ) → length (passing front) ≡ 0 → u (name x) ≡ true → position_from u k (map name (front ++ x ∷ back)) ≡ Some (k + length front)
  place_behind [] back x k none h =
      let here : k ≡ k + 0 = omega arith in
      ap (λ b. cond b (Some k) (position_from u (k + 1) (map name back))) h ∙ ap Some here
  place_behind (y ∷ front) back x k none h =
      let first = none_here y front none (u (name y)) refl in
      let count : k + 1 + length front ≡ k + suc (length front) = omega arith in
      ap (λ b. cond b (Some k) (position_from u (k + 1) (map name (front ++ x ∷ back)))) first.0 ∙ place_behind front back x (k + 1) first.1 h ∙ ap Some count

  pub no_place : (xs : List X) (k : ℕ) → length (passing xs) ≡ 0 → position_from u k (map name xs) ≡ None
  no_place [] k none = refl
  no_place (x ∷ xs) k none =
      let first = none_here x xs none (u (name x)) refl in
      ap (λ b. cond b (Some k) (position_from u (k + 1) (map name xs))) first.0 ∙ no_place xs (k + 1) first.1
