-- In a list put in order, the place of each is the number of those that precede it: by the test, and where that ties by a number beside each.
use Rattle.std.proofs.Common.{◌≡◌, ℕ, zero, suc, ◌<◌, List, [], ◌∷◌, Bool, true, false, true≢false, cond, length, get_or, filter, refl, sym, ap, ◌∙◌, arith, nat_cmp, nat_eq, is_lt, IsPermutation}
use Rattle.std.specs.Bool.{⊤}
use Rattle.std.specs.Cmp.{IsTotalOrder}
use Rattle.std.specs.declared.cmp.Ordering.{Ordering}
use Rattle.std.specs.declared.cmp.Ordering.TheVariants.{Less, Equal, Greater}
use Rattle.std.specs.Ordering.{ordering_then, ordering_reverse}
use Rattle.std.proofs.lemmas.Bool.{cond_both}
use Rattle.std.proofs.lemmas.Cmp.{nat_cmp_total, on_total, then_total, tied_itself}
use Rattle.std.proofs.lemmas.List.Sorted.{IsPermutation-refl, IsPermutation-trans, IsPermutation-cons, IsPermutation-middle}
use Rattle.std.proofs.Common.{lt-ltb}
use Rattle.spec_json.specs.InOrder.{put_in, in_order}
use Rattle.spec_json.proofs.KeyOrder.{less_of}

lesser : (a b : ℕ) → a < b → nat_cmp a b ≡ Less
lesser a b h = ap (λ t. cond t Less (cond (nat_eq a b) Equal Greater)) (lt-ltb a b h)

-- where y isn't less than x, x comes first or the numbers decide
first_or_tied : (r s m : Ordering) → r ≡ ordering_reverse s → is_lt s ≡ false → m ≡ Less → ordering_then r m ≡ Less
first_or_tied r Less m e h l = absurd (true≢false h)
first_or_tied r Equal m e h l = ap (λ o. ordering_then o m) e ∙ l
first_or_tied r Greater m e h l = ap (λ o. ordering_then o m) e

-- two conditional elements count alike in either order
len_swap : {X : Type 0} (a b : Bool) (x y : X) (l m : List X) → length m ≡ length (cond a (x ∷ l) l) → length (cond b (y ∷ m) m) ≡ length (cond a (x ∷ cond b (y ∷ l) l) (cond b (y ∷ l) l))
len_swap true true x y l m h = ap suc h
len_swap true false x y l m h = h
len_swap false true x y l m h = ap suc h
len_swap false false x y l m h = h

module _ {X : Type 0} (R : X → X → Ordering) (o : IsTotalOrder R) (n : X → ℕ) where
  -- by R, and where that ties by the number
  abbrev lex : X → X → Ordering
  lex x y = ordering_then (R x y) (nat_cmp (n x) (n y))

  abbrev less : X → X → Bool
  less x y = is_lt (R x y)

  lex_total : IsTotalOrder lex
  lex_total = then_total o (on_total n nat_cmp_total)

  -- all numbers of the list are greater
  abbrev pub Beyond : ℕ → List X → Type 0
  Beyond a [] = ⊤
  Beyond a (y ∷ ys) = (a < n y) × Beyond a ys

  -- the numbers rise along the list
  abbrev pub Rising : List X → Type 0
  Rising [] = ⊤
  Rising (x ∷ xs) = Beyond (n x) xs × Rising xs

  -- all of the list come behind y
  abbrev Behind : X → List X → Type 0
  Behind y [] = ⊤
  Behind y (e ∷ es) = (lex y e ≡ Less) × Behind y es

  -- no two tie, and each comes before those after it
  abbrev Strict : List X → Type 0
  Strict [] = ⊤
  Strict (y ∷ ys) = Behind y ys × Strict ys

  beyond_put : (a : ℕ) (x : X) (ys : List X) → a < n x → Beyond a ys → Beyond a (put_in less x ys)
  beyond_put a x [] l h = (l, tt)
  beyond_put a x (y ∷ ys) l h = let rest = beyond_put a x ys l h.1 in cond_both (less y x) (y ∷ put_in less x ys) (x ∷ y ∷ ys) (Beyond a) (λ _. (h.0, rest)) (λ _. (l, h))

  beyond_in_order : (a : ℕ) (xs : List X) → Beyond a xs → Beyond a (in_order less xs)
  beyond_in_order a [] h = tt
  beyond_in_order a (x ∷ xs) h = beyond_put a x (in_order less xs) h.0 (beyond_in_order a xs h.1)

  behind_put : (a x : X) (ys : List X) → lex a x ≡ Less → Behind a ys → Behind a (put_in less x ys)
  behind_put a x [] l h = (l, tt)
  behind_put a x (y ∷ ys) l h = let rest = behind_put a x ys l h.1 in cond_both (less y x) (y ∷ put_in less x ys) (x ∷ y ∷ ys) (Behind a) (λ _. (h.0, rest)) (λ _. (l, h))

  behind_under : (x y : X) (ys : List X) → lex x y ≡ Less → Behind y ys → Behind x ys
  behind_under x y [] l h = tt
  behind_under x y (z ∷ zs) l h = (lex_total.trans x y z l h.0, behind_under x y zs l h.1)

  strict_put : (x : X) (ys : List X) → Beyond (n x) ys → Strict ys → Strict (put_in less x ys)
  strict_put x [] b h = (tt, tt)
  strict_put x (y ∷ ys) b h =
      let rest = strict_put x ys b.1 h.1 in
      cond_both (less y x) (y ∷ put_in less x ys) (x ∷ y ∷ ys) Strict
      (λ e. (behind_put y x ys (ap (λ r. ordering_then r (nat_cmp (n y) (n x))) (less_of (R y x) e)) h.0, rest))
      (λ e.
      let l : lex x y ≡ Less = first_or_tied (R x y) (R y x) (nat_cmp (n x) (n y)) (o.antisymm x y) e (lesser (n x) (n y) b.0) in
      ((l, behind_under x y ys l h.0), h))

  strict_in_order : (xs : List X) → Rising xs → Strict (in_order less xs)
  strict_in_order [] h = tt
  strict_in_order (x ∷ xs) h = strict_put x (in_order less xs) (beyond_in_order (n x) xs h.0) (strict_in_order xs h.1)

  -- how many of the list precede y
  abbrev rank : X → List X → ℕ
  rank y xs = length (filter (λ q. is_lt (lex q y)) xs)

  no_rank : (y : X) (es : List X) → Behind y es → rank y es ≡ 0
  no_rank y [] h = refl
  no_rank y (e ∷ es) h =
      let no : is_lt (lex e y) ≡ false = ap is_lt (lex_total.antisymm e y ∙ ap ordering_reverse h.0) in
      ap (λ t. length (cond t (e ∷ filter (λ q. is_lt (lex q y)) es) (filter (λ q. is_lt (lex q y)) es))) no ∙ no_rank y es h.1

  behind_at : (y : X) (es : List X) (k : ℕ) (d : X) → k < length es → Behind y es → lex y (get_or es k d) ≡ Less
  behind_at y [] k d l h = absurd (omega (arith, l))
  behind_at y (e ∷ es) zero d l h = h.0
  behind_at y (e ∷ es) (suc k) d l h = behind_at y es k d (omega (arith, l)) h.1

  -- of a list that is strictly in order, the place of each is its rank
  counted : (ys : List X) → Strict ys → (k : ℕ) (d : X) → k < length ys → rank (get_or ys k d) ys ≡ k
  counted [] h k d l = absurd (omega (arith, l))
  counted (y ∷ ys) h zero d l =
      ap (λ t. length (cond t (y ∷ filter (λ q. is_lt (lex q y)) ys) (filter (λ q. is_lt (lex q y)) ys))) (ap is_lt (tied_itself lex_total y)) ∙ no_rank y ys h.0
  counted (y ∷ ys) h (suc k) d l =
      let z = get_or ys k d in
      ap (λ t. length (cond t (y ∷ filter (λ q. is_lt (lex q z)) ys) (filter (λ q. is_lt (lex q z)) ys))) (ap is_lt (behind_at y ys k d (omega (arith, l)) h.0))
      ∙ ap suc (counted ys h.1 k d (omega (arith, l)))

  length_put : (p : X → Bool) (x : X) (ys : List X) → length (filter p (put_in less x ys)) ≡ length (filter p (x ∷ ys))
  length_put p x [] = refl
  length_put p x (y ∷ ys) =
      let rest = length_put p x ys in
      cond_both (less y x) (y ∷ put_in less x ys) (x ∷ y ∷ ys) (λ l. length (filter p l) ≡ length (filter p (x ∷ y ∷ ys)))
      (λ _. len_swap (p x) (p y) x y (filter p ys) (filter p (put_in less x ys)) rest) (λ _. refl)

  -- as many pass a test as before the list was put in order
  pub length_in_order : (p : X → Bool) (xs : List X) → length (filter p (in_order less xs)) ≡ length (filter p xs)
  length_in_order p [] = refl
  length_in_order p (x ∷ xs) = length_put p x (in_order less xs) ∙ len_cons (p x) (length_in_order p xs)
    where
      len_cons : (b : Bool) → length (filter p (in_order less xs)) ≡ length (filter p xs) → length (cond b (x ∷ filter p (in_order less xs)) (filter p (in_order less xs))) ≡ length (cond b (x ∷ filter p xs) (filter p xs))
      len_cons true h = ap suc h
      len_cons false h = h

  shuffled_put : (x : X) (ys : List X) → IsPermutation (x ∷ ys) (put_in less x ys)
  shuffled_put x [] = IsPermutation-refl (x ∷ [])
  shuffled_put x (y ∷ ys) =
      let rest = shuffled_put x ys in
      cond_both (less y x) (y ∷ put_in less x ys) (x ∷ y ∷ ys) (λ l. IsPermutation (x ∷ y ∷ ys) l)
      (λ _. IsPermutation-trans (x ∷ y ∷ ys) (y ∷ x ∷ ys) (y ∷ put_in less x ys) (IsPermutation-middle (x ∷ []) y ys) (IsPermutation-cons y (x ∷ ys) (put_in less x ys) rest))
      (λ _. IsPermutation-refl (x ∷ y ∷ ys))

  -- the same elements
  pub shuffled_in_order : (xs : List X) → IsPermutation xs (in_order less xs)
  shuffled_in_order [] = IsPermutation-refl []
  shuffled_in_order (x ∷ xs) =
      IsPermutation-trans (x ∷ xs) (x ∷ in_order less xs) (in_order less (x ∷ xs)) (IsPermutation-cons x xs (in_order less xs) (shuffled_in_order xs)) (shuffled_put x (in_order less xs))

  -- so each place is the rank in the list as it was
  pub places_counted : (xs : List X) → Rising xs → (k : ℕ) (d : X) → k < length (in_order less xs) → rank (get_or (in_order less xs) k d) xs ≡ k
  places_counted xs up k d l =
      let ys = in_order less xs in
      sym (length_in_order (λ q. is_lt (lex q (get_or ys k d))) xs) ∙ counted ys (strict_in_order xs up) k d l
