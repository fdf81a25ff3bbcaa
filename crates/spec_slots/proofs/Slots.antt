-- Starts that are tried one after the other.
use Rattle.std.proofs.Common.{◌≡◌, ℤ, List, [], ◌∷◌, ◌++◌, Option, Some, None, find, is_none, refl, ap, ◌∙◌}
use Rattle.std.proofs.lemmas.List.Folds.{find-append}
use Rattle.std.specs.Option.{option_or}
use Rattle.spec_bookings.specs.declared.clash.Clash.{Clash}
use Rattle.spec_slots.specs.Slots.{first_free, tried_of}

none_some : {X : Type 0} (x : X) → Some x ≡ None → ⊥
none_some x h = cc

-- A list of starts and then others.

pub free_join : (clash : ℤ → Option Clash) (xs ys : List ℤ) → first_free clash xs ≡ None → first_free clash (xs ++ ys) ≡ first_free clash ys
free_join clash xs ys none = find-append (λ x. is_none (clash x)) xs ys ∙ ap (λ o. option_or o (find (λ x. is_none (clash x)) ys)) none

-- what is found in front of others is found of all
pub found_in_front : (clash : ℤ → Option Clash) (xs ys : List ℤ) (s : ℤ) → first_free clash xs ≡ Some s → first_free clash (xs ++ ys) ≡ Some s
found_in_front clash xs ys s e = find-append (λ x. is_none (clash x)) xs ys ∙ ap (λ o. option_or o (find (λ x. is_none (clash x)) ys)) e

record Taken (clash : ℤ → Option Clash) (x : ℤ) (xs : List ℤ) : Type 0 where
  against : Clash
  is : clash x ≡ Some against
  none : first_free clash xs ≡ None

taken_by : (clash : ℤ → Option Clash) (x : ℤ) (xs : List ℤ) (o : Option Clash) → clash x ≡ o → first_free clash (x ∷ xs) ≡ None → Taken clash x xs
taken_by clash x xs None e h = let found : Some x ≡ None = rw e at h in absurd (none_some x found)
taken_by clash x xs (Some c) e h = record { against = c; is = e; none = rw e at h }

taken : (clash : ℤ → Option Clash) (x : ℤ) (xs : List ℤ) → first_free clash (x ∷ xs) ≡ None → Taken clash x xs
taken clash x xs h = taken_by clash x xs (clash x) refl h

pub told_join : (clash : ℤ → Option Clash) (xs ys : List ℤ) → first_free clash xs ≡ None → tried_of clash (xs ++ ys) ≡ tried_of clash xs ++ tried_of clash ys
told_join clash [] ys none = refl
told_join clash (x ∷ xs) ys none =
    let t = taken clash x xs none in
    rw t.is (ap (λ ts. record { start = x; clash = t.against } ∷ ts) (told_join clash xs ys t.none))

pub told_here : (clash : ℤ → Option Clash) (x : ℤ) (c : Clash) (xs : List ℤ) → clash x ≡ Some c → tried_of clash (x ∷ xs) ≡ record { start = x; clash = c } ∷ tried_of clash xs
told_here clash x c xs e = rw e refl

pub free_here : (clash : ℤ → Option Clash) (x : ℤ) (rest : List ℤ) → clash x ≡ None → first_free clash (x ∷ rest) ≡ Some x
free_here clash x rest e = rw e refl

pub none_here : (clash : ℤ → Option Clash) (x : ℤ) (rest : List ℤ) → clash x ≡ None → tried_of clash (x ∷ rest) ≡ []
none_here clash x rest e = rw e refl
