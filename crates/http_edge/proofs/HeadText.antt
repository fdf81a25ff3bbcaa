-- The head of a response, put together.
use Rattle.std.proofs.Common.{◌≡◌, ℕ, List, ◌++◌, append_assoc, codes}
use Rattle.std.specs.Prelude.{decimal}
use Rattle.spec_http.specs.Responses.{crlf}

regroup : (a d b p e t f n ch al cl : List ℕ) → (a ++ (d ++ (b ++ (p ++ (e ++ (t ++ (f ++ (n ++ (e ++ (ch ++ (al ++ cl))))))))))) ++ e ≡ (a ++ d ++ b ++ p ++ e) ++ t ++ (f ++ n ++ e) ++ ch ++ al ++ cl ++ e
regroup a d b p e t f n ch al cl = simp append_assoc

-- each part is the line that it should be
pub text_parts : (s : ℕ) (p q t u : List ℕ) (n m : ℕ) (ch dh al bl cl dl : List ℕ) → p ≡ q → t ≡ u → n ≡ m → ch ≡ dh → al ≡ bl → cl ≡ dl
    → (codes "HTTP/1.1 " ++ (decimal s ++ (codes " " ++ (p ++ (crlf ++ (t ++ (codes "Content-Length: " ++ (decimal n ++ (crlf ++ (ch ++ (al ++ cl))))))))))) ++ crlf
    ≡ (codes "HTTP/1.1 " ++ decimal s ++ codes " " ++ q ++ crlf) ++ u ++ (codes "Content-Length: " ++ decimal m ++ crlf) ++ dh ++ bl ++ dl ++ crlf
text_parts s p q t u n m ch dh al bl cl dl a b c d e f =
    rw (a, b, c, d, e, f) (regroup (codes "HTTP/1.1 ") (decimal s) (codes " ") q crlf u (codes "Content-Length: ") (decimal m) dh bl dl)
