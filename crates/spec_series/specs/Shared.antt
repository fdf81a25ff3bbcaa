-- The wall seconds that occurrences of two series cover, or two occurrences of one, and the first of them.
use Rattle.std.specs.Prelude.{◌≡◌, ℤ, pos, ◌+ℤ◌, int_le, int_lt, Bool, not, ◌&&◌, Option, find}
use Rattle.std.specs.List.{list_any}
use Rattle.std.specs.Ordering.{int_eq}
use Rattle.spec_series.specs.declared.occurrence.Occurrence.{Occurrence}
use Rattle.spec_series.specs.declared.series.Series.{Series}
use Rattle.spec_series.specs.Numbers.{seconds_around}
use Rattle.spec_series.specs.Occurrences.{Covers, IsOccurrence, passes_with}
use Rattle.spec_series.specs.SeriesLimits.{wall_seconds}

-- As facts over occurrences.

-- an occurrence of each series covers x
abbrev pub IsShared : Series → Series → ℤ → Type 0
IsShared a b x = (o : Occurrence) × (p : Occurrence) × IsOccurrence a o × IsOccurrence b p × Covers o x × Covers p x

-- two occurrences of the series cover x, which differ in their recurrence ids
abbrev pub IsSelfShared : Series → ℤ → Type 0
IsSelfShared a x =
    (o : Occurrence) × (p : Occurrence) × IsOccurrence a o × IsOccurrence a p × ((o.rid ≡ p.rid) → ⊥) × Covers o x × Covers p x

-- As tests. An occurrence has its recurrence id less than 2 ^ 57 seconds from those that it covers.

-- an occupying occurrence covers x
abbrev pub is_over : ℤ → Occurrence → Bool
is_over x o = o.occupying && (int_le o.start x && int_lt x (o.start +ℤ pos (wall_seconds o.length)))

-- an occurrence of the series covers x
unfoldable pub covers : Series → ℤ → Bool
covers s x = list_any (passes_with (is_over x) s) (seconds_around x)

-- two occurrences cover x, the one of recurrence id i and a different one
abbrev pub covers_beside : Series → ℤ → ℤ → Bool
covers_beside s x i = passes_with (is_over x) s i && list_any (λ j. not (int_eq i j) && passes_with (is_over x) s j) (seconds_around x)

-- two different ones do
unfoldable pub covers_twice : Series → ℤ → Bool
covers_twice s x = list_any (covers_beside s x) (seconds_around x)

-- The first second.

-- the least wall second that passes, looked for around 1970-01-01T00:00:00
unfoldable pub first_second : (ℤ → Bool) → Option ℤ
first_second p = find p (seconds_around (pos 0))

-- the first second that both series cover
abbrev pub first_shared_second : Series → Series → Option ℤ
first_shared_second a b = first_second (λ x. covers a x && covers b x)

-- the first second that the series covers twice
abbrev pub first_self_shared_second : Series → Option ℤ
first_self_shared_second a = first_second (covers_twice a)
