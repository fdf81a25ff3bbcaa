-- Texts in ASCII with their case folded.
use Rattle.std.proofs.Common.{◌≡◌, ◌∙◌, ℕ, List, [], ◌∷◌, map, IsAscii, ap, encode_utf8_all, chars, refl, sym, length, true}
use Rattle.std.proofs.lemmas.Str.{chars-IsAscii, encodes-IsAscii}
use Rattle.std.proofs.lemmas.Str.Ascii.{IsAscii-map, lowercase_ascii}
use Rattle.std.specs.Char.{to_ascii_lowercase}
use Rattle.caseless.proofs.CaselessLemmas.{All-chars, default_case_fold-ascii}
use Rattle.folded_text.specs.Contains.{begins, contains, folded, stands_in}

pub folded_ascii : (s : List ℕ) → IsAscii s → folded s ≡ map to_ascii_lowercase s
folded_ascii s h =
    ap encode_utf8_all (default_case_fold-ascii (chars s) (All-chars s h) ∙ ap (map to_ascii_lowercase) (chars-IsAscii s h))
    ∙ encodes-IsAscii (map to_ascii_lowercase s) (IsAscii-map to_ascii_lowercase s lowercase_ascii h)

pub ascii_contains : (text needle : List ℕ) → IsAscii text → IsAscii needle → stands_in (map to_ascii_lowercase needle) (map to_ascii_lowercase text) ≡ contains text needle
ascii_contains text needle t n = rw (folded_ascii text t, folded_ascii needle n) refl

empty_stands : (text : List ℕ) → stands_in [] text ≡ true
unfolding begins stands_in
empty_stands [] = refl
empty_stands (b ∷ bs) = refl

pub nothing_stands : (text needle : List ℕ) → length needle ≡ 0 → true ≡ stands_in (map to_ascii_lowercase needle) (map to_ascii_lowercase text)
nothing_stands text [] h = sym (empty_stands (map to_ascii_lowercase text))
nothing_stands text (c ∷ cs) h = cc
