-- A time with its separators, byte by byte.
use Rattle.std.proofs.Common.{◌≡◌, ℕ, List, [], ◌∷◌, length, slice_index, arith, refl}
use Rattle.spec_recurrence.specs.OccurrenceIds.{separated}

pub separated_bytes : (s : List ℕ) → length s ≡ 15
    → separated s
    ≡ slice_index s 0 ∷ slice_index s 1 ∷ slice_index s 2 ∷ slice_index s 3 ∷ 45 ∷ slice_index s 4 ∷ slice_index s 5 ∷ 45 ∷ slice_index s 6 ∷ slice_index s 7
    ∷ slice_index s 8 ∷ slice_index s 9 ∷ slice_index s 10 ∷ 58 ∷ slice_index s 11 ∷ slice_index s 12 ∷ 58 ∷ slice_index s 13 ∷ slice_index s 14 ∷ []
unfolding separated
separated_bytes (a ∷ b ∷ c ∷ d ∷ e ∷ f ∷ g ∷ h ∷ i ∷ j ∷ k ∷ l ∷ m ∷ n ∷ o ∷ []) is = refl
separated_bytes _ is = absurd (omega arith)
