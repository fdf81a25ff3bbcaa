-- What the values of `Content-Length` say together, and numbers from digits.
use Rattle.std.proofs.Common.{◌≡◌, ℕ, ◌+◌, ◌*◌, ◌^◌, ◌<◌, ◌≤◌, List, [], ◌∷◌, fold, cond, Bool, true, false, refl, sym, ap, ◌∙◌, arith}
use Rattle.std.specs.Prelude.{◌&&◌, ◌==◌}
use Rattle.std.specs.List.{list_all}
use Rattle.std.specs.Char.{is_ascii_digit}
use Rattle.std.specs.Str.Parse.{digits_value}
use Rattle.std.proofs.lemmas.Bool.Decides.{nat_tests}
use Rattle.std.proofs.Math.Nat.{pow-le-pow_right}
use Rattle.spec_http.specs.Fields.{absent, known, unusable, is_length, is_length_of, length_said}
use Rattle.http_edge.specs.Reading.{length_step}

self : (n : ℕ) → (n == n) ≡ true
self n = grind (arith, nat_tests)

stays_unusable : (vs : List (List ℕ)) → fold length_step unusable vs ≡ unusable
stays_unusable [] = refl
stays_unusable (v ∷ vs) = stays_unusable vs

step_known : (n : ℕ) (p : Bool) (vs : List (List ℕ)) (t : Bool) → fold length_step (known n) vs ≡ cond p (known n) unusable → fold length_step (cond t (known n) unusable) vs ≡ cond (t && p) (known n) unusable
step_known n p vs true e = e
step_known n p vs false e = stays_unusable vs

stays_known : (n : ℕ) (vs : List (List ℕ)) → fold length_step (known n) vs ≡ cond (list_all (is_length_of n) vs) (known n) unusable
stays_known n [] = refl
stays_known n (v ∷ vs) = step_known n (list_all (is_length_of n) vs) vs (is_length_of n v) (stays_known n vs)

first_known : (n : ℕ) (vs : List (List ℕ)) (t u : Bool) → u ≡ true → fold length_step (cond t (known n) unusable) vs ≡ cond ((t && u) && list_all (is_length_of n) vs) (known n) unusable
first_known n vs true u e = stays_known n vs ∙ ap (λ w. cond (w && list_all (is_length_of n) vs) (known n) unusable) (sym e)
first_known n vs false u e = stays_unusable vs

pub said : (vs : List (List ℕ)) → fold length_step absent vs ≡ length_said vs
said [] = refl
said (v ∷ vs) = first_known (digits_value 10 v) vs (is_length v) (digits_value 10 v == digits_value 10 v) (self (digits_value 10 v))

-- ---- digits

pub digit_bounds : (c : ℕ) → is_ascii_digit c ≡ true → (48 ≤ c) × (c ≤ 57)
digit_bounds c h = grind (arith, nat_tests)

ten : 0 < 10
ten = omega arith

pub fits : (n i len b : ℕ) → n < 10 ^ i → i < len → len ≤ 19 → b ≤ 9 → n * 10 + b < 2 ^ 64
fits n i len b h k l m =
    let p : 10 ^ i ≤ 10 ^ 18 = let j : i ≤ 18 = omega arith in pow-le-pow_right {n = 10} ten {i = i} {j = 18} j in
    omega arith
