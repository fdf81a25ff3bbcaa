-- Which bytes are ASCII.
use Rattle.std.proofs.Common.{◌≡◌, ℕ, ◌<◌, List, [], ◌∷◌, length, true, arith}
use Rattle.std.specs.Prelude.{◌&&◌, nat_lt, nat_le}
use Rattle.std.specs.Char.{is_ascii_graphic}
use Rattle.std.specs.List.{list_all, All}
use Rattle.std.specs.Str.{IsAscii}
use Rattle.std.proofs.lemmas.Bool.Decides.{nat_tests}
use Rattle.std.proofs.lemmas.List.Elements.{All-tail}
use Rattle.std.proofs.lemmas.Str.Ascii.{IsAscii-cons, IsAscii-nil}
use Rattle.std.proofs.lemmas.Bool.{and_parts}
use Rattle.httparse.specs.Grammar.{is_token_byte}
use Rattle.spec_core.specs.Names.{is_token}

graphic_ascii : (b : ℕ) → is_ascii_graphic b ≡ true → b < 128
graphic_ascii b h = grind (arith, nat_tests)

all_graphic_ascii : (text : List ℕ) → list_all is_ascii_graphic text ≡ true → IsAscii text
all_graphic_ascii [] h = IsAscii-nil
all_graphic_ascii (b ∷ text) h =
    let e = and_parts (is_ascii_graphic b) (list_all is_ascii_graphic text) h in
    IsAscii-cons b text (graphic_ascii b e.0) (all_graphic_ascii text e.1)

-- a bearer token
pub token_ascii : (text : List ℕ) → is_token text ≡ true → IsAscii text
token_ascii text h =
    let some = and_parts (nat_lt 0 (length text)) (nat_le (length text) 255 && list_all is_ascii_graphic text) h in
    let short = and_parts (nat_le (length text) 255) (list_all is_ascii_graphic text) some.1 in
    all_graphic_ascii text short.1

token_byte_ascii : (b : ℕ) → is_token_byte b ≡ true → b < 128
unfolding is_token_byte
token_byte_ascii b h = grind (arith, nat_tests)

-- a method
pub token_bytes_ascii : (text : List ℕ) → All (λ b. is_token_byte b ≡ true) text → IsAscii text
token_bytes_ascii [] h = IsAscii-nil
token_bytes_ascii (b ∷ text) h = IsAscii-cons b text (token_byte_ascii b (h 0 0 (omega arith))) (token_bytes_ascii text (All-tail (λ c. is_token_byte c ≡ true) b text h))
