-- The values that a series may have (the limits of this project).
use Rattle.std.specs.Prelude.{ℕ, ◌+◌, ◌*◌, ◌&&◌, Bool, true, not, nat_le, ℤ, List, [], ◌∷◌, Option, Some, None}
use Rattle.std.specs.List.{list_all, list_any}
use Rattle.std.specs.Ordering.{int_eq}
use Rattle.spec_series.specs.declared.exception.Exception.{Exception}
use Rattle.spec_series.specs.declared.exception.Span.{Span}
use Rattle.spec_time.specs.declared.length.Length.{Length}
use Rattle.spec_time.specs.Walls.{is_in_years}

-- all of a length in wall seconds, where a day has 86400
abbrev pub wall_seconds : Length → ℕ
wall_seconds l = 86400 * l.days + l.seconds

-- the wall seconds of 366 days, the most that an occurrence lasts
abbrev pub most_seconds : ℕ
most_seconds = 31622400

abbrev pub is_span_in_years : Option Span → Bool
is_span_in_years None = true
is_span_in_years (Some s) = is_in_years s.start

-- recurrence ids, and the starts of what replaces them, lie in the years 0 to 9999
abbrev pub are_in_years : List Exception → Bool
are_in_years xs = list_all (λ x. is_in_years x.rid && is_span_in_years x.replaced) xs

abbrev pub is_span_short : Option Span → Bool
is_span_short None = true
is_span_short (Some s) = nat_le (wall_seconds s.length) most_seconds

-- what replaces them lasts at most 366 days
abbrev pub are_short : List Exception → Bool
are_short xs = list_all (λ x. is_span_short x.replaced) xs

-- an exception names the wall second
unfoldable pub is_named : List Exception → ℤ → Bool
is_named xs w = list_any (λ x. int_eq x.rid w) xs

-- no recurrence id is named twice
unfoldable pub are_distinct : List Exception → Bool
are_distinct [] = true
are_distinct (x ∷ xs) = not (is_named xs x.rid) && are_distinct xs
