-- Items of the lists of a rule, looked for one by one.
use Rattle.std.proofs.Common.{◌≡◌, ℕ, ◌+◌, ◌==◌, ◌&&◌, ◌||◌, Bool, true, false, refl, sym, ◌∙◌, ap, arith, inl, inr, ℤ, pos, neg_ℤ, ◌<ℤ◌, int_lt, List, [], ◌∷◌, get_or, Option, Some, None, IsNone, IfSome, is_some}
use Rattle.std.specs.List.{list_any}
use Rattle.std.specs.Option.{option_eq}
use Rattle.std.specs.Ordering.{int_eq}
use Rattle.std.proofs.lemmas.Bool.{false_from_ne_true, or_cases, or_left, or_right}
use Rattle.std.proofs.lemmas.Bool.Decides.{Decides-int_eq}
use Rattle.std.proofs.lemmas.List.Folds.{list_any_at, list_any_none}
use Rattle.jiff_core.proofs.SignedLemmas.{signed_arith}
use Rattle.spec_series.specs.Items.{is_item, IsLeastItem, NoneFrom}
use Rattle.spec_series.specs.declared.by_part.NDay.{NDay}
use Rattle.spec_series.specs.Places.{is_place}
use Rattle.rule_expand.specs.Walk.{nday_at, nth_at}
use Rattle.rule_expand.proofs.Cycle.{list_any-same}
use Rattle.rule_expand.proofs.Places.{is_late, late_is}

crossed : (a b c d : Bool) → ((a || b) || (c || d)) ≡ ((a || c) || (b || d))
crossed true b c d = refl
crossed false true true d = refl
crossed false true false d = refl
crossed false false c d = refl

either : {X : Type 0} (p q : X → Bool) (xs : List X) → list_any (λ x. p x || q x) xs ≡ (list_any p xs || list_any q xs)
either p q [] = refl
either p q (x ∷ xs) = rw (either p q xs) (crossed (p x) (q x) (list_any p xs) (list_any q xs))

-- a place is looked for from the front and from the end
pub place_among : (front back : ℕ) (xs : List ℤ) → list_any (is_place front back) xs ≡ (list_any (λ k. int_eq k (pos front)) xs || list_any (λ k. int_eq k (neg_ℤ (pos back))) xs)
place_among front back xs = either (λ k. int_eq k (pos front)) (λ k. int_eq k (neg_ℤ (pos back))) xs

pub neither_place : (front back : ℕ) (xs : List ℤ) → is_item xs (pos front) ≡ false → is_item xs (neg_ℤ (pos back)) ≡ false → list_any (is_place front back) xs ≡ false
neither_place front back xs f b = place_among front back xs ∙ rw (f, b) refl

-- a greater number than n is an item where some item is at least n + 1

none_beyond : (n : ℕ) (xs : List ℤ) → NoneFrom xs (pos (n + 1)) → list_any (λ k. int_lt (pos n) k) xs ≡ false
none_beyond n xs none =
    list_any_none (λ k. int_lt (pos n) k) xs (λ i d l. false_from_ne_true (int_lt (pos n) (get_or xs i d)) (λ h.
    let there = list_any_at (λ y. int_eq y (get_or xs i d)) xs i d l ((Decides-int_eq (get_or xs i d) (get_or xs i d)).1 refl) in
    let gone = none (get_or xs i d) (omega (arith, signed_arith, late_is (pos n) (get_or xs i d) h)) in
    cc))

beyond_one : (n : ℕ) (k : ℤ) (xs : List ℤ) → pos n <ℤ k → is_item xs k ≡ true → list_any (λ x. int_lt (pos n) x) xs ≡ true
beyond_one n k [] lt h = h
beyond_one n k (x ∷ xs) lt h = elim (or_cases (int_eq x k) (is_item xs k) h) [
  | inl here ↦ or_left (int_lt (pos n) x) (list_any (λ y. int_lt (pos n) y) xs) (is_late (pos n) x (let e = (Decides-int_eq x k).0 here in rw e lt))
  | inr later ↦ or_right (int_lt (pos n) x) (list_any (λ y. int_lt (pos n) y) xs) (beyond_one n k xs lt later)
]

pub any_beyond : (n : ℕ) (xs : List ℤ) (o : Option ℤ) → (IsNone o → NoneFrom xs (pos (n + 1))) → IfSome o (IsLeastItem xs (pos (n + 1))) → is_some o ≡ list_any (λ k. int_lt (pos n) k) xs
any_beyond n xs None none some = sym (none_beyond n xs (none refl))
any_beyond n xs (Some k) none some = sym (beyond_one n k xs (omega (arith, signed_arith, some.from)) some.item)

parts_of : (here : Bool) (front back : ℕ) (nth : Option ℤ)
    → (here && nth_at front back nth) ≡ (((here && option_eq int_eq nth None) || (here && option_eq int_eq nth (Some (pos front)))) || (here && option_eq int_eq nth (Some (neg_ℤ (pos back)))))
parts_of false front back nth = refl
parts_of true front back None = refl
parts_of true front back (Some k) = refl

-- an item is the weekday with that place, or without one
abbrev pub names_nday : ℕ → Option ℤ → List NDay → Bool
names_nday w nth xs = list_any (λ d. (w == d.day) && option_eq int_eq d.nth nth) xs

-- a day of the week is looked for without a place, from the front and from the end
pub nday_among : (w front back : ℕ) (xs : List NDay)
    → list_any (nday_at w front back) xs ≡ ((names_nday w None xs || names_nday w (Some (pos front)) xs) || names_nday w (Some (neg_ℤ (pos back))) xs)
nday_among w front back xs =
    list_any-same (nday_at w front back) _ (λ d. parts_of (w == d.day) front back d.nth) xs
    ∙ either (λ d. ((w == d.day) && option_eq int_eq d.nth None) || ((w == d.day) && option_eq int_eq d.nth (Some (pos front)))) (λ d. (w == d.day) && option_eq int_eq d.nth (Some (neg_ℤ (pos back)))) xs
    ∙ ap (λ b. b || names_nday w (Some (neg_ℤ (pos back))) xs)
    (either (λ d. (w == d.day) && option_eq int_eq d.nth None) (λ d. (w == d.day) && option_eq int_eq d.nth (Some (pos front))) xs)

-- what is found first settles the answer, and what isn't leaves it to the next

pub settled : (a b r : Bool) → r ≡ a → r ≡ true → r ≡ (a || b)
settled a b r h t = rw (sym h ∙ t) t

pub left_open : (a b q r : Bool) → q ≡ a → q ≡ false → r ≡ b → r ≡ (a || b)
left_open a b q r h f e = rw (sym h ∙ f) e
