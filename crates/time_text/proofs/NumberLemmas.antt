-- Which number a text of digits writes out, and that other texts write out none.
use Rattle.std.proofs.Common.{zero, suc, ◌≡◌, ℕ, ◌+◌, ◌-◌, ◌*◌, ◌<◌, ◌^◌, ◌==◌, List, length, Bool, true, false, Some, None, Result, Ok, Err, fold, nat_lt, if◌then◌else◌, arith, rules, get_or, sym, ap, ◌∙◌, refl, subst}
use Rattle.std.proofs.lemmas.Bool.{and_from, and_parts}
use Rattle.std.proofs.lemmas.Bool.Decides.{nat_tests}
use Rattle.std.proofs.lemmas.Fmt.{decimal-digits_value, digits_decimal, digits_value-decimal, first_decimal, decimal_digit, decimal_nonempty, IsAscii-from_digits}
use Rattle.std.proofs.lemmas.Slice.Eq.{bytes_eq-Decides}
use Rattle.std.proofs.lemmas.Str.{IsUtf8-from_ascii}
use Rattle.std.proofs.lemmas.Str.Parse.{IsNumeralModel, numerals_by_fold, parse_digits}
use Rattle.std.specs.Char.{is_ascii_digit}
use Rattle.std.specs.Fmt.{decimal}
use Rattle.std.specs.List.{list_all}
use Rattle.std.specs.Result.{result_ok}
use Rattle.std.specs.Str.{bytes_eq, IsUtf8}
use Rattle.std.specs.Str.Parse.{ParsesUnsigned}
use Rattle.spec_json.specs.Number.{number_in, value_of_digits, writes_out}
use Rattle.time_text.specs.Digits.{has_leading_zero}

abbrev pub are_digits : List ℕ → Bool
are_digits s = list_all is_ascii_digit s

pub own : IsNumeralModel (λ s. are_digits s ≡ true) value_of_digits
own = numerals_by_fold _ (search rules) (λ n s. fold (λ m b. 10 * m + (b - 48)) n s) (search rules)

no_choice : (b : Bool) (n : ℕ) → (b ≡ true → ⊥) → (if b then Some n else None) ≡ None
no_choice true n h = absurd (h refl)
no_choice false n h = refl

none_where : (s : List ℕ) → (value_of_digits s < 2 ^ 64 → decimal (value_of_digits s) ≡ s → ⊥) → number_in s ≡ None
none_where s h = no_choice (writes_out s (value_of_digits s)) (value_of_digits s)
    (λ w. let parts = and_parts (nat_lt (value_of_digits s) (2 ^ 64)) (bytes_eq (decimal (value_of_digits s)) s) w in h (grind (arith, nat_tests)) ((bytes_eq-Decides _ _).0 parts.1))

some_where : (s : List ℕ) → value_of_digits s < 2 ^ 64 → decimal (value_of_digits s) ≡ s → number_in s ≡ Some (value_of_digits s)
some_where s small e =
    let is : writes_out s (value_of_digits s) ≡ true = and_from _ _ (search (rules, nat_tests)) ((bytes_eq-Decides _ _).1 e) in
    rw is refl

-- a text with a byte that is no digit, or with a leading zero, writes out no number
pub none_without_digits : (s : List ℕ) → are_digits s ≡ false → None ≡ number_in s
none_without_digits s h = sym (none_where s (λ small e. let d = subst (λ t. are_digits t ≡ true) e (digits_decimal own (value_of_digits s) small) in cc))

front_of_zero : (s : List ℕ) (n : ℕ) → n < 2 ^ 64 → decimal n ≡ s → 1 < length s → get_or s 0 0 ≡ 48 → ⊥
front_of_zero s zero small e long h = let l : length s ≡ 1 = ap length (sym e ∙ decimal_digit 0 (search rules)) in omega arith
front_of_zero s (suc n) small e long h =
    let l : 48 < get_or s 0 0 = subst (λ t. 48 < get_or t 0 0) e (first_decimal (suc n) (omega arith) small) in omega arith

pub none_with_leading_zero : (s : List ℕ) → has_leading_zero s ≡ true → None ≡ number_in s
none_with_leading_zero s h =
    let parts = and_parts (nat_lt 1 (length s)) (get_or s 0 0 == 48) h in
    sym (none_where s (λ small e. front_of_zero s (value_of_digits s) small e (grind (arith, nat_tests)) (grind (arith, nat_tests))))

-- any other text writes out what `parse` reads
pub parsed : {E : Type 0} (s : List ℕ) (r : Result ℕ E) → ParsesUnsigned 64 10 s r → are_digits s ≡ true → has_leading_zero s ≡ false → result_ok r ≡ number_in s
parsed {E} s (Ok n) h d z =
    let p = parse_digits own {E = E} 64 s (Ok n) h d in
    let single : get_or s 0 0 ≡ 48 → length s ≡ 1 = λ e. grind (arith, nat_tests) in
    sym (some_where s p.0.1 (decimal-digits_value own s d p.0.0 single p.0.1) ∙ ap Some (sym p.1))
parsed {E} s (Err e) h d z =
    let p = parse_digits own {E = E} 64 s (Err e) h d in
    sym (none_where s (λ small written. p (subst (λ t. 0 < length t) written (decimal_nonempty _ small), small)))

pub digits_are_utf8 : (s : List ℕ) → are_digits s ≡ true → IsUtf8 s
digits_are_utf8 s h = IsUtf8-from_ascii s (IsAscii-from_digits s (own.to s h))

-- a number that was written is read back
pub decimal_back : (n : ℕ) → n < 2 ^ 64 → number_in (decimal n) ≡ Some n
decimal_back n h =
    let v : value_of_digits (decimal n) ≡ n = digits_value-decimal own n h in
    some_where (decimal n) (subst (λ m. m < 2 ^ 64) (sym v) h) (ap decimal v) ∙ ap Some v
