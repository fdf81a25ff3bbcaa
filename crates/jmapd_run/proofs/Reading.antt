-- What was read of a known input.
use Rattle.std.proofs.Common.{◌≡◌, ◌+◌, ◌<◌, ◌≤◌, ◌++◌, ◌∷◌, [], ℕ, ℤ, List, Option, Some, None, length, take, sym, ap, ◌∙◌, subst, append-nil, arith}
use Rattle.std.proofs.Math.Nat.{lt_of_not-le}
use Rattle.std.proofs.Math.Seq.{take-append_seam}
use Rattle.std.proofs.lemmas.List.{take_all}
use Rattle.std.specs.Io.KnownBytes.{Consumes, IsAtEnd}
use Rattle.io_edge.specs.Outside.{Ticks}

not_nil : (b : ℕ) (rest : List ℕ) → b ∷ rest ≡ [] → ⊥
not_nil b rest e = let n = ap length e in absurd (omega (arith, n))

-- bytes that were read to the end of the input, or to one past a limit
pub all_read : (most : ℕ) (input bytes : List ℕ) (left : Option (List ℕ)) → Consumes (Some input) left bytes → length bytes ≤ most + 1 → (length bytes ≤ most → IsAtEnd left) → bytes ≡ take (most + 1) input
all_read most input bytes None c few whole = absurd c
all_read most input bytes (Some more) c few whole = by_more more c whole
  where
    by_more : (rest : List ℕ) → input ≡ bytes ++ rest → (length bytes ≤ most → rest ≡ []) → bytes ≡ take (most + 1) input
    by_more [] is h =
        let same : input ≡ bytes = is ∙ append-nil bytes in
        sym (take_all (most + 1) input (subst (λ (l : List ℕ). length l ≤ most + 1) (sym same) few) ∙ same)
    by_more (b ∷ rest) is h =
        let not_short : most < length bytes = lt_of_not-le (λ short. not_nil b rest (h short)) in
        let full : length bytes ≡ most + 1 = omega (arith, few, not_short) in
        sym (ap (take (most + 1)) is ∙ (ap (λ (n : ℕ). take n (bytes ++ b ∷ rest)) (sym full) ∙ take-append_seam bytes (b ∷ rest)))

pub first_told : (clock : ℕ → ℤ) (moments : Option (ℕ → ℤ)) (moment : ℤ) → Ticks (Some clock) moments moment → moment ≡ clock 0
first_told clock None moment t = absurd t
first_told clock (Some now) moment t = t.0
