-- The occurrences that exceptions give (RFC 8984 section 4.3.5), the order of occurrences, and the first of those that come later than others.
use Rattle.std.specs.Prelude.{◌≡◌, ℕ, ℤ, Bool, true, false, ◌&&◌, ◌||◌, int_lt, List, slice_get, Option, Some, None, MatchOption}
use Rattle.std.specs.Option.{option_map_or}
use Rattle.std.specs.Ordering.{int_eq}
use Rattle.spec_series.specs.declared.exception.Exception.{Exception}
use Rattle.spec_series.specs.declared.exception.Span.{Span}
use Rattle.spec_series.specs.declared.occurrence.Occurrence.{Occurrence}

-- what an exception puts in the place of an occurrence
abbrev pub replacement : ℤ → Span → Occurrence
replacement rid span = record { rid = rid; start = span.start; length = span.length; occupying = span.occupying }

-- the occurrence that an exception gives, whether or not a rule gives its recurrence id
abbrev pub IsReplacement : Exception → Occurrence → Type 0
IsReplacement x o = x ≡ record { rid = o.rid; replaced = Some (record { start = o.start; length = o.length; occupying = o.occupying }) }

-- the exception gives an occurrence that passes a test
abbrev pub gives_one : (Occurrence → Bool) → Exception → Bool
gives_one p x = option_map_or (λ span. p (replacement x.rid span)) x.replaced false

abbrev pub is_past : Option ℤ → ℤ → Bool
is_past None rid = true
is_past (Some p) rid = int_lt p rid

-- after `from`, or at it with a recurrence id after `past`
unfoldable pub is_after : ℤ → Option ℤ → ℤ → ℤ → Bool
is_after from past start rid = int_lt from start || (int_eq start from && is_past past rid)

-- by start and then recurrence id
unfoldable pub is_sooner : Occurrence → Occurrence → Bool
is_sooner a b = int_lt a.start b.start || (int_eq a.start b.start && int_lt a.rid b.rid)

-- the first occurrence that P holds of, or None where P holds of none
abbrev pub IsFirstOf : (Occurrence → Type 0) → Option Occurrence → Type 0
IsFirstOf P o = MatchOption o ((q : Occurrence) → P q → ⊥) (λ x. P x × ((q : Occurrence) → P q → is_sooner q x ≡ false))

-- what an exception gives after (from, past)
abbrev pub IsLater : ℤ → Option ℤ → Exception → Occurrence → Type 0
IsLater from past x o = IsReplacement x o × (is_after from past o.start o.rid ≡ true)

abbrev pub IsLaterAt : ℤ → Option ℤ → List Exception → ℕ → Occurrence → Type 0
IsLaterAt from past xs k o = (x : Exception) × ((slice_get xs k ≡ Some x) × IsLater from past x o)
