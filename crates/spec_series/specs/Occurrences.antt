-- The occurrences of a series (RFC 8984 section 4.3), and the wall seconds that they cover.
use Rattle.std.specs.Prelude.{◌≡◌, ◌⊎◌, ℕ, ◌==◌, ℤ, pos, ◌+ℤ◌, ◌≤ℤ◌, ◌<ℤ◌, Bool, true, false, ◌&&◌, List, [], ◌∷◌, slice_get, find, Option, Some, None, option_map, if◌then◌else◌}
use Rattle.std.specs.List.{list_any}
use Rattle.std.specs.Option.{option_map_or}
use Rattle.std.specs.Ordering.{int_eq}
use Rattle.spec_series.specs.declared.rule.Rule.{Rule}
use Rattle.spec_series.specs.declared.exception.Exception.{Exception}
use Rattle.spec_series.specs.declared.occurrence.Occurrence.{Occurrence}
use Rattle.spec_series.specs.declared.series.Series.{Series}
use Rattle.spec_time.specs.Walls.{day_of_wall, second_of_wall}
use Rattle.spec_series.specs.Given.{IsReplacement, replacement}
use Rattle.spec_series.specs.RuleSets.{is_in_set}
use Rattle.spec_series.specs.SeriesLimits.{is_named, wall_seconds}

-- a day of some rule's set; without rules, the start's day alone
abbrev pub is_day : List Rule → ℤ → ℤ → Bool
is_day [] start n = int_eq n (day_of_wall start)
is_day (r ∷ rs) start n = list_any (λ rule. is_in_set rule start n) (r ∷ rs)

-- a recurrence id: the wall second of such a day at the start's time of day
abbrev pub is_rid : Series → ℤ → Bool
is_rid s w = (second_of_wall w == second_of_wall s.start) && is_day s.rules s.start (day_of_wall w)

-- The occurrence of a recurrence id.

-- the exception of a recurrence id
abbrev pub exception_with : List Exception → ℤ → Option Exception
exception_with xs rid = find (λ x. int_eq x.rid rid) xs

-- what the series itself has at the wall second of a recurrence id
abbrev pub regular : Series → ℤ → Occurrence
regular s rid = record { rid = rid; start = rid; length = s.length; occupying = s.occupying }

-- the exception says whether there is the occurrence, whatever the rules give
abbrev pub occurrence_by : Series → ℤ → Option Exception → Option Occurrence
occurrence_by s rid None = if is_rid s rid then Some (regular s rid) else None
occurrence_by s rid (Some x) = option_map (replacement rid) x.replaced

-- the occurrence of a recurrence id, none where there is no such
unfoldable pub occurrence_with : Series → ℤ → Option Occurrence
occurrence_with s rid = occurrence_by s rid (exception_with s.exceptions rid)

-- an occurrence of the series
abbrev pub IsOccurrence : Series → Occurrence → Type 0
IsOccurrence s o = occurrence_with s o.rid ≡ Some o

-- the occurrence of a recurrence id passes a test
abbrev pub passes_with : (Occurrence → Bool) → Series → ℤ → Bool
passes_with test s rid = option_map_or test (occurrence_with s rid) false

-- The two kinds of occurrences, as facts.

-- the occurrence of a recurrence id that no exception names
pub record IsRegular (s : Series) (o : Occurrence) : Type 0 where
  pub rid : is_rid s o.rid ≡ true
  pub free : is_named s.exceptions o.rid ≡ false
  pub start : o.start ≡ o.rid
  pub length : o.length ≡ s.length
  pub occupying : o.occupying ≡ s.occupying

-- an occurrence of one of the two kinds
abbrev pub IsOfKinds : Series → Occurrence → Type 0
IsOfKinds s o = IsRegular s o ⊎ ((k : ℕ) × ((x : Exception) × ((slice_get s.exceptions k ≡ Some x) × IsReplacement x o)))

-- The wall seconds of an occurrence.

-- an occupying occurrence covers the wall second
pub record Covers (o : Occurrence) (x : ℤ) : Type 0 where
  pub occupying : o.occupying ≡ true
  pub begun : o.start ≤ℤ x
  pub not_over : x <ℤ (o.start +ℤ pos (wall_seconds o.length))
