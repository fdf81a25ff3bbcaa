-- Lists put in order: they are determined, filters and maps go through, and a stable sort leaves them.
use Rattle.std.proofs.Common.{◌≡◌, ℕ, suc, ◌<◌, ◌≤◌, List, [], ◌∷◌, Bool, true, false, true≢false, cond, not, ◌&&◌, length, get_or, map, filter, refl, sym, ap, ◌∙◌, subst, arith}
use Rattle.std.proofs.lemmas.Bool.{cond_both}
use denote.Ref.{Bor}
use denote.Param.Members.{Mut}
use Rattle.std.specs.Bool.{⊤}
use Rattle.std.specs.Cmp.{IsStrictWeakOrder}
use Rattle.std.specs.Fn.{Called, ComparesAs}
use Rattle.std.specs.List.Sorted.{IsSortedBy, IsSortedByClosure, IsStableByClosure, ties}
use Rattle.std.specs.Ordering.{is_lt}
use Rattle.std.specs.declared.cmp.Ordering.{Ordering}
use Rattle.std.proofs.lemmas.Fn.{always_returns_same}
use Rattle.std.proofs.lemmas.List.Sorted.{sorted_far}
use Rattle.spec_json.specs.InOrder.{put_in, in_order, Orders}

abbrev first_of_list : {X : Type 0} → X → List X → X
first_of_list d [] = d
first_of_list d (x ∷ xs) = x

abbrev rest_of : {X : Type 0} → List X → List X
rest_of [] = []
rest_of (x ∷ xs) = xs

not_both : (b : Bool) → (b ≡ true → b ≡ false) → b ≡ false
not_both true h = h refl
not_both false h = refl

and_not : (a b : Bool) → a ≡ false → b ≡ false → (not a && not b) ≡ true
and_not a b p q i = not (p i) && not (q i)

both_false : (a b : Bool) → (not a && not b) ≡ true → (a ≡ false) × (b ≡ false)
both_false true b h = absurd (true≢false (sym h))
both_false false true h = absurd (true≢false (sym h))
both_false false false h = (refl, refl)

swap_conds : {X : Type 0} (b c : Bool) (x y : X) (l : List X) → (b ≡ true → c ≡ true → ⊥) → cond c (y ∷ cond b (x ∷ l) l) (cond b (x ∷ l) l) ≡ cond b (x ∷ cond c (y ∷ l) l) (cond c (y ∷ l) l)
swap_conds true true x y l h = absurd (h refl refl)
swap_conds true false x y l h = refl
swap_conds false true x y l h = refl
swap_conds false false x y l h = refl

module _ {X : Type 0} where
  swapped : (p q : X → Bool) (x : X) (xs : List X) (a b : Bool) → p x ≡ a → q x ≡ b → filter p (filter q xs) ≡ filter q (filter p xs)
      → filter p (cond b (x ∷ filter q xs) (filter q xs)) ≡ filter q (cond a (x ∷ filter p xs) (filter p xs))
  swapped p q x xs true true e f h = rw (e, f) (ap (λ l. x ∷ l) h)
  swapped p q x xs true false e f h = rw f h
  swapped p q x xs false true e f h = rw e h
  swapped p q x xs false false e f h = h

  filter_swap : (p q : X → Bool) (xs : List X) → filter p (filter q xs) ≡ filter q (filter p xs)
  filter_swap p q [] = refl
  filter_swap p q (x ∷ xs) = swapped p q x xs (p x) (q x) refl refl (filter_swap p q xs)

module _ {X : Type 0} (lt : X → X → Bool) where
  -- none of the list is less than x
  abbrev pub Above : X → List X → Type 0
  Above x [] = ⊤
  Above x (y ∷ ys) = (lt y x ≡ false) × Above x ys

  abbrev pub Up : List X → Type 0
  Up [] = ⊤
  Up (x ∷ xs) = Above x xs × Up xs

  above_of : (x : X) (xs : List X) → ((k : ℕ) → k < length xs → lt (get_or xs k x) x ≡ false) → Above x xs
  above_of x [] h = tt
  above_of x (y ∷ ys) h = (h 0 (omega arith), above_of x ys (λ k p. h (suc k) (omega arith)))

  up_of : (xs : List X) → ((i j : ℕ) (d : X) → i ≤ j → j < length xs → lt (get_or xs j d) (get_or xs i d) ≡ false) → Up xs
  up_of [] h = tt
  up_of (x ∷ xs) h = (above_of x xs (λ k p. h 0 (suc k) x (omega arith) (omega arith)), up_of xs (λ i j d p q. h (suc i) (suc j) d (omega arith) (omega arith)))

  module _ (o : IsStrictWeakOrder lt) where
    pub up_from_sorted : (xs : List X) → IsSortedBy lt xs → Up xs
    up_from_sorted xs h = up_of xs (sorted_far lt o xs h)

    not_itself : (x : X) → lt x x ≡ false
    not_itself x = not_both (lt x x) (o.one_way x x)

    ties_itself : (x : X) → ties lt x x ≡ true
    ties_itself x = and_not (lt x x) (lt x x) (not_itself x) (not_itself x)

    above_kept : (p : X → Bool) (x : X) (xs : List X) → Above x xs → Above x (filter p xs)
    above_kept p x [] h = tt
    above_kept p x (y ∷ ys) h = let rest = above_kept p x ys h.1 in cond_both (p y) (y ∷ filter p ys) (filter p ys) (Above x) (λ _. (h.0, rest)) (λ _. rest)

    up_kept : (p : X → Bool) (xs : List X) → Up xs → Up (filter p xs)
    up_kept p [] h = tt
    up_kept p (x ∷ xs) h = let rest = up_kept p xs h.1 in cond_both (p x) (x ∷ filter p xs) (filter p xs) Up (λ _. (above_kept p x xs h.0, rest)) (λ _. rest)

    -- a list's own first element passes the test of ties
    tied_first : (x : X) (xs : List X) → filter (ties lt x) (x ∷ xs) ≡ x ∷ filter (ties lt x) xs
    tied_first x xs = rw (ties_itself x) refl

    -- the first of zs isn't less than that of ys, where zs has no other elements
    first_least : (y z : X) (ys zs : List X) → Above y ys → filter (ties lt z) (y ∷ ys) ≡ filter (ties lt z) (z ∷ zs) → lt z y ≡ false
    first_least y z ys zs u h = (subst (Above y) (h ∙ tied_first z zs) (above_kept (ties lt z) y (y ∷ ys) (not_itself y, u))).0

    tails : (b : Bool) (y z : X) (es bs : List X) → cond b (y ∷ es) es ≡ cond b (z ∷ bs) bs → es ≡ bs
    tails true y z es bs h = ap rest_of h
    tails false y z es bs h = h

    no_nil : (x : X) (xs : List X) → [] ≡ x ∷ xs → ⊥
    no_nil x xs h = let e : 0 ≡ suc (length xs) = ap length h in absurd (omega (arith, e))

    -- two lists in order whose ties stand alike are one
    pub unique : (ys zs : List X) → Up ys → Up zs → ((x : X) → filter (ties lt x) ys ≡ filter (ties lt x) zs) → ys ≡ zs
    unique [] [] u v h = refl
    unique [] (z ∷ zs) u v h = absurd (no_nil z _ (h z ∙ tied_first z zs))
    unique (y ∷ ys) [] u v h = absurd (no_nil y _ (sym (h y) ∙ tied_first y ys))
    unique (y ∷ ys) (z ∷ zs) u v h =
        let zy : lt z y ≡ false = first_least y z ys zs u.0 (h z) in
        let yz : lt y z ≡ false = first_least z y zs ys v.0 (sym (h y)) in
        let tie : ties lt y z ≡ true = and_not (lt y z) (lt z y) yz zy in
        let e : y ≡ z = ap (first_of_list y) (sym (tied_first y ys) ∙ h y ∙ ap (λ b. cond b (z ∷ filter (ties lt y) zs) (filter (ties lt y) zs)) tie) in
        let rest = unique ys zs u.1 v.1 (λ x. tails (ties lt x y) y z _ _ (h x ∙ ap (λ w. cond (ties lt x w) (z ∷ filter (ties lt x) zs) (filter (ties lt x) zs)) (sym e))) in
        λ i. e i ∷ rest i

    -- ---- insertion

    above_put : (a x : X) (ys : List X) → Above a ys → lt x a ≡ false → Above a (put_in lt x ys)
    above_put a x [] h e = (e, tt)
    above_put a x (y ∷ ys) h e = let rest = above_put a x ys h.1 e in cond_both (lt y x) (y ∷ put_in lt x ys) (x ∷ y ∷ ys) (Above a) (λ _. (h.0, rest)) (λ _. (e, h))

    above_under : (x y : X) (ys : List X) → lt y x ≡ false → Above y ys → Above x ys
    above_under x y [] e h = tt
    above_under x y (z ∷ zs) e h = (o.chain z y x h.0 e, above_under x y zs e h.1)

    up_put : (x : X) (ys : List X) → Up ys → Up (put_in lt x ys)
    up_put x [] h = (tt, tt)
    up_put x (y ∷ ys) h =
        let rest = up_put x ys h.1 in
        cond_both (lt y x) (y ∷ put_in lt x ys) (x ∷ y ∷ ys) Up (λ e. (above_put y x ys h.0 (o.one_way y x e), rest)) (λ e. ((e, above_under x y ys e h.0), h))

    pub up_in_order : (xs : List X) → Up (in_order lt xs)
    up_in_order [] = tt
    up_in_order (x ∷ xs) = up_put x (in_order lt xs) (up_in_order xs)

    never_both : (a x y : X) → lt y x ≡ true → ties lt a x ≡ true → ties lt a y ≡ true → ⊥
    never_both a x y e p q =
        let ax = (both_false (lt a x) (lt x a) p).0 in
        let ya = (both_false (lt a y) (lt y a) q).1 in
        true≢false (sym e ∙ o.chain y a x ya ax)

    stable_put : (a x : X) (ys : List X) → filter (ties lt a) (put_in lt x ys) ≡ filter (ties lt a) (x ∷ ys)
    stable_put a x [] = refl
    stable_put a x (y ∷ ys) =
        let t = ties lt a in
        let rest = stable_put a x ys in
        cond_both (lt y x) (y ∷ put_in lt x ys) (x ∷ y ∷ ys) (λ l. filter (ties lt a) l ≡ filter (ties lt a) (x ∷ y ∷ ys))
        (λ e. ap (λ l. cond (ties lt a y) (y ∷ l) l) rest ∙ swap_conds (ties lt a x) (ties lt a y) x y (filter (ties lt a) ys) (never_both a x y e))
        (λ _. refl)

    pub stable_in_order : (xs : List X) (a : X) → filter (ties lt a) (in_order lt xs) ≡ filter (ties lt a) xs
    stable_in_order [] a = refl
    stable_in_order (x ∷ xs) a = stable_put a x (in_order lt xs) ∙ ap (λ l. cond (ties lt a x) (x ∷ l) l) (stable_in_order xs a)

    -- what a stable sort leaves
    pub is_in_order : (xs ys : List X) → Orders lt xs ys → ys ≡ in_order lt xs
    is_in_order xs ys h = unique ys (in_order lt xs) (up_from_sorted ys h.0) (up_in_order xs) (λ x. h.1 x ∙ sym (stable_in_order xs x))

    pub in_order_filter : (p : X → Bool) (xs : List X) → filter p (in_order lt xs) ≡ in_order lt (filter p xs)
    in_order_filter p xs =
        unique (filter p (in_order lt xs)) (in_order lt (filter p xs)) (up_kept p (in_order lt xs) (up_in_order xs)) (up_in_order (filter p xs))
        (λ a. filter_swap (ties lt a) p (in_order lt xs) ∙ ap (filter p) (stable_in_order xs a) ∙ filter_swap p (ties lt a) xs ∙ sym (stable_in_order (filter p xs) a))

module _ {X Y : Type 0} (h : X → Y) (lt : Y → Y → Bool) where
  put_map_case : (b : Bool) (x y : X) (ys : List X) → put_in lt (h x) (map h ys) ≡ map h (put_in (λ a b. lt (h a) (h b)) x ys)
      → cond b (h y ∷ put_in lt (h x) (map h ys)) (h x ∷ h y ∷ map h ys) ≡ map h (cond b (y ∷ put_in (λ a b. lt (h a) (h b)) x ys) (x ∷ y ∷ ys))
  put_map_case true x y ys e = ap (λ l. h y ∷ l) e
  put_map_case false x y ys e = refl

  put_map : (x : X) (ys : List X) → put_in lt (h x) (map h ys) ≡ map h (put_in (λ a b. lt (h a) (h b)) x ys)
  put_map x [] = refl
  put_map x (y ∷ ys) = put_map_case (lt (h y) (h x)) x y ys (put_map x ys)

  -- the keys decide, whatever stands beside them
  pub in_order_map : (xs : List X) → in_order lt (map h xs) ≡ map h (in_order (λ a b. lt (h a) (h b)) xs)
  in_order_map [] = refl
  in_order_map (x ∷ xs) = ap (put_in lt (h x)) (in_order_map xs) ∙ put_map x (in_order (λ a b. lt (h a) (h b)) xs)

-- what a stable sort by a closure leaves, where the closure compares what is shown of its arguments
pub sorted_in_order : {X Y F : Type 0} {g : Mut F (Bor X × (Bor X × Unit {0})) Ordering} {f : F} (shown : X → Y) (lt : Y → Y → Bool)
    → IsStrictWeakOrder (λ x y. lt (shown x) (shown y)) → (xs ys : List X) → IsSortedByClosure g f ys → IsStableByClosure g f xs ys
    → ((a : Bor X × (Bor X × Unit {0})) (r : Ordering) (f' : F) → Called g f a r f' → (is_lt r ≡ lt (shown a.0.now) (shown a.1.0.now)) × (f' ≡ f))
    → map shown ys ≡ in_order lt (map shown xs)
sorted_in_order {X = X} {g = g} {f = f} shown lt o xs ys sorted stable h =
    let below : X → X → Bool = λ x y. lt (shown x) (shown y) in
    let compares : ComparesAs g below f = always_returns_same g (λ a r. is_lt r ≡ below a.0.now a.1.0.now) f h in
    ap (map shown) (is_in_order below o xs ys (sorted below o compares, stable below o compares)) ∙ sym (in_order_map shown lt xs)
