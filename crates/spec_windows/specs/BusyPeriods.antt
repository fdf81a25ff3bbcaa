-- Busy periods: the maximal runs of busy instants.
use Rattle.std.specs.Prelude.{◌≡◌, ℤ, int_le, int_lt, ◌&&◌, Bool, true, false, List, [], ◌∷◌, Option}
use Rattle.std.specs.List.{list_any}
use Rattle.std.specs.Option.{option_map_or}
use Rattle.spec_series.specs.declared.occurrence.Occurrence.{Occurrence}
use Rattle.spec_series.specs.declared.series.Series.{Series}
use Rattle.spec_series.specs.Occurrences.{IsOccurrence}
use Rattle.spec_windows.specs.declared.period.Period.{Period}
use Rattle.spec_windows.specs.Windows.{span_at}

abbrev pub lies_in : ℤ → Period → Bool
lies_in u p = int_le p.from u && int_lt u p.to

-- some period covers the instant
abbrev pub is_busy : List Period → ℤ → Bool
is_busy ps u = list_any (lies_in u) ps

-- after `low` and up to `high`; none is empty, and each begins after the one before it has ended, so that no two touch
unfoldable pub are_runs : ℤ → ℤ → List Period → Bool
are_runs low high [] = true
are_runs low high (p ∷ ps) = int_lt low p.from && (int_lt p.from p.to && (int_le p.to high && are_runs p.to high ps))

-- an occurrence takes up the instant: it takes up time, and the instant lies between its start and its end
abbrev pub occupies : (ℤ → Option ℤ) → ℤ → Occurrence → Bool
occupies at u o = o.occupying && option_map_or (lies_in u) (span_at at o) false

-- an occurrence of the series does
abbrev pub IsOccupied : Series → (ℤ → Option ℤ) → ℤ → Type 0
IsOccupied s at u = (o : Occurrence) × (IsOccurrence s o × (occupies at u o ≡ true))
