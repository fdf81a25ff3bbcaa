-- How long texts are with their case folded.
use Rattle.std.proofs.Common.{◌≡◌, ◌∙◌, ℕ, ◌+◌, ◌*◌, ◌<◌, ◌≤◌, List, [], ◌∷◌, ◌++◌, ◌==◌, true, false, length, length-append, IsUtf8, IsAscii, chars, encode_utf8, encode_utf8_all, ap, refl, arith, inl, inr}
use Rattle.std.proofs.lemmas.Bool.{and_parts, cases_lt, false_from_ne_true, or_cases}
use Rattle.std.proofs.lemmas.Bool.Decides.{nat_tests}
use Rattle.std.proofs.lemmas.Str.{encodes-chars, length-encode, length-le-encodes}
use Rattle.std.proofs.lemmas.List.{length-map}
use Rattle.std.specs.Char.{len_utf8, to_ascii_lowercase}
use Rattle.caseless.specs.Caseless.{default_case_fold}
use Rattle.caseless.proofs.CaselessLemmas.{default_case_fold-cons, full_fold-none, full_fold-some, length-default_case_fold}
use Rattle.query_filter.proofs.AsciiLemmas.{folded_ascii}
use Rattle.folded_text.specs.Contains.{begins, contains, folded, stands_in}

four_bytes : (c : ℕ) → len_utf8 c ≤ 4
four_bytes c = grind (arith, nat_tests)

encodes_short : (cs : List ℕ) → length (encode_utf8_all cs) ≤ 4 * length cs
encodes_short [] = omega arith
encodes_short (c ∷ cs) = omega (arith, length-append (encode_utf8 c) (encode_utf8_all cs), length-encode c, four_bytes c, encodes_short cs)

-- at least one character stands in the place of each, where the table has none for it and where it has
folds_more : (c : ℕ) (fold table rest whole : List ℕ) → whole ≡ fold ++ rest → (length table < 1 → fold ≡ c ∷ []) → (1 ≤ length table → fold ≡ table) → length rest + 1 ≤ length whole
folds_more c fold table rest whole e none some =
    let n = ap length e ∙ length-append fold rest in
    elim (cases_lt (length table) 1) [
      | inl lt ↦ omega (arith, n, ap length (none lt))
      | inr le ↦ omega (arith, n, ap length (some le))
    ]

folds_long : (cs : List ℕ) → length cs ≤ length (default_case_fold cs)
folds_long [] = omega arith
folds_long (c ∷ cs) =
    let more = folds_more c _ _ (default_case_fold cs) (default_case_fold (c ∷ cs)) (default_case_fold-cons c cs) (full_fold-none c _ refl) (full_fold-some c _ refl) in
    omega (arith, more, folds_long cs)

-- a quarter of the bytes is left
folded_long : (s : List ℕ) → IsUtf8 s → length s ≤ 4 * length (folded s)
folded_long s u =
    omega (arith, ap length (encodes-chars s u), encodes_short (chars s), folds_long (chars s), length-le-encodes (default_case_fold (chars s)))

-- they become at most eight times as many
folded_short : (s : List ℕ) → IsUtf8 s → length (folded s) ≤ 8 * length s
folded_short s u =
    omega (arith, ap length (encodes-chars s u), encodes_short (default_case_fold (chars s)), length-default_case_fold (chars s))

begins_fits : (needle text : List ℕ) → begins needle text ≡ true → length needle ≤ length text
unfolding begins
begins_fits [] text h = omega arith
begins_fits (c ∷ cs) [] h = cc
begins_fits (c ∷ cs) (b ∷ bs) h = omega (arith, begins_fits cs bs (and_parts (b == c) (begins cs bs) h).1)

stands_fits : (needle text : List ℕ) → stands_in needle text ≡ true → length needle ≤ length text
unfolding stands_in
stands_fits needle [] h = begins_fits needle [] h
stands_fits needle (b ∷ bs) h = elim (or_cases (begins needle (b ∷ bs)) (stands_in needle bs) h) [
  | inl first ↦ begins_fits needle (b ∷ bs) first
  | inr later ↦ omega (arith, stands_fits needle bs later)
]

pub too_short : (text needle : List ℕ) → IsUtf8 text → IsUtf8 needle → 32 * length text < length needle → contains text needle ≡ false
too_short text needle t n h = false_from_ne_true (contains text needle) (λ c.
    absurd (omega (arith, h, folded_short text t, folded_long needle n, stands_fits (folded needle) (folded text) c)))

pub ascii_too_short : (text needle : List ℕ) → IsAscii text → IsUtf8 needle → 4 * length text < length needle → contains text needle ≡ false
ascii_too_short text needle t n h = false_from_ne_true (contains text needle) (λ c.
    absurd (omega (arith, h, ap length (folded_ascii text t), length-map text to_ascii_lowercase, folded_long needle n, stands_fits (folded needle) (folded text) c)))
