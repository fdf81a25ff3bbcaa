-- Pieces of a list of bytes, one after another.
use Rattle.std.proofs.Common.{◌≡◌, ℕ, ◌+◌, ◌-◌, ◌≤◌, List, ◌++◌, Option, length, take, drop, sym, ap, ap₂, ◌∙◌, subst, arith}
use Rattle.std.proofs.Math.Seq.{take-add, take-append_seam}
use Rattle.std.proofs.lemmas.List.{drop-drop, length-drop, length-take-le, take-append-drop, take_rest}
use Rattle.std.specs.Io.KnownBytes.{Consumes}
use Rattle.std.proofs.KnownBytes.{Consumes-trans}
use Rattle.io_edge.specs.Outside.{ConsumesAtMost, Grows}
use Rattle.io_edge.proofs.OutsideLemmas.{Grows-trans}

-- after the first i bytes of a piece, n more of them
pub given_more : (a b c : Option (List ℕ)) (bytes : List ℕ) (i n : ℕ) → Grows a b (take i bytes) → Grows b c (take n (take (length bytes - i) (drop i bytes))) → Grows a c (take (i + n) bytes)
given_more a b c bytes i n h k =
    subst (Grows a c) (sym (take-add i n bytes)) (Grows-trans a b c _ _ h (subst (λ l. Grows b c (take n l)) (take_rest bytes i) k))

-- a piece was taken after others
pub consumed_more : (a b c : Option (List ℕ)) (taken piece : List ℕ) (most : ℕ) → Consumes a b taken → Consumes b c piece → length (taken ++ piece) ≤ most → ConsumesAtMost a c most
consumed_more a b c taken piece most h k within = (taken ++ piece, within, Consumes-trans a b c taken piece h k)

-- what was copied to the front of a buffer is the front of what was left
pub front_and_rest : (bytes all copied buffer : List ℕ) (at n k : ℕ) → at + n ≤ length bytes → copied ≡ take k (drop at all) → k ≡ n → all ≡ bytes → drop at bytes ≡ take n (copied ++ drop n buffer) ++ drop (at + n) bytes
front_and_rest bytes all copied buffer at n k within is count whole =
    let piece : copied ≡ take n (drop at bytes) = is ∙ ap₂ (λ m l. take m (drop at l)) count whole in
    let small : n ≤ length (drop at bytes) = omega (arith, length-drop at bytes) in
    let len : length copied ≡ n = ap length piece ∙ length-take-le n (drop at bytes) small in
    let front : take n (copied ++ drop n buffer) ≡ copied = ap (λ m. take m (copied ++ drop n buffer)) (sym len) ∙ take-append_seam copied (drop n buffer) in
    sym (ap₂ (λ l m. l ++ m) (front ∙ piece) (sym (drop-drop n at bytes)) ∙ take-append-drop n (drop at bytes))
