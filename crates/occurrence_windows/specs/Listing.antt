-- Occurrences in order.
use Rattle.std.specs.Prelude.{◌≡◌, ◌<◌, ℕ, ℤ, true, List, slice_get, Option, Some}
use Rattle.spec_series.specs.declared.occurrence.Occurrence.{Occurrence}
use Rattle.spec_series.specs.Given.{is_after, is_sooner}

-- P holds of the occurrence, and it starts after `from`, or at it with a recurrence id after `past`
abbrev pub IsAfter : (Occurrence → Type 0) → ℤ → Option ℤ → Occurrence → Type 0
IsAfter P from past o = P o × (is_after from past o.start o.rid ≡ true)

-- just the occurrences that P holds of, each sooner than those behind it
pub record IsListOf (P : Occurrence → Type 0) (os : List Occurrence) : Type 0 where
  pub only : (k : ℕ) (o : Occurrence) → slice_get os k ≡ Some o → P o
  pub all : (o : Occurrence) → P o → (k : ℕ) × (slice_get os k ≡ Some o)
  pub ordered : (j k : ℕ) (a b : Occurrence) → j < k → slice_get os j ≡ Some a → slice_get os k ≡ Some b → is_sooner a b ≡ true
