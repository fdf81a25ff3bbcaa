-- Why a list of one exception keeps the limits of a series.
use Rattle.std.proofs.Common.{◌≡◌, ◌≤◌, ◌&&◌, true, [], ◌∷◌, Option, Some, None, IfSome, refl, arith}
use Rattle.std.proofs.lemmas.Bool.Decides.{nat_tests}
use Rattle.spec_series.specs.declared.exception.Exception.{Exception}
use Rattle.spec_series.specs.declared.exception.Span.{Span}
use Rattle.spec_series.specs.SeriesLimits.{are_distinct, are_in_years, are_short, is_named, is_span_in_years, is_span_short, wall_seconds}
use Rattle.spec_time.specs.Walls.{is_in_years}
use Rattle.rule_expand.proofs.Sets.{both_and}

span_in : (o : Option Span) → IfSome o (λ s. is_in_years s.start ≡ true) → is_span_in_years o ≡ true
span_in None h = refl
span_in (Some s) h = h

span_short : (o : Option Span) → IfSome o (λ s. wall_seconds s.length ≤ 31622400) → is_span_short o ≡ true
span_short None h = refl
span_short (Some s) h = grind (arith, nat_tests)

pub one_in_years : (x : Exception) → is_in_years x.rid ≡ true → IfSome x.replaced (λ s. is_in_years s.start ≡ true) → are_in_years (x ∷ []) ≡ true
one_in_years x h g = both_and (is_in_years x.rid && is_span_in_years x.replaced) true (both_and (is_in_years x.rid) (is_span_in_years x.replaced) h (span_in x.replaced g)) refl

pub one_short : (x : Exception) → IfSome x.replaced (λ s. wall_seconds s.length ≤ 31622400) → are_short (x ∷ []) ≡ true
one_short x h = both_and (is_span_short x.replaced) true (span_short x.replaced h) refl

pub one_distinct : (x : Exception) → are_distinct (x ∷ []) ≡ true
unfolding are_distinct is_named
one_distinct x = refl
