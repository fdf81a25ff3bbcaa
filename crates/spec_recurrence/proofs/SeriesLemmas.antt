-- A series is the one that has its parts, and has no others.
use Rattle.std.proofs.Common.{◌≡◌, Bool, true, false, Some, length as count, nat_le, refl, sym, ap, arith}
use Rattle.std.proofs.Math.Bool.{Bool-set}
use Rattle.std.proofs.Math.Bridge.{le_prop}
use Rattle.std.proofs.lemmas.Bool.{and_from}
use Rattle.std.proofs.lemmas.Bool.Decides.{nat_tests}
use Rattle.std.proofs.lemmas.Option.{none-some, same_Some}
use Rattle.spec_recurrence.specs.SeriesOf.{IsSeries, SeriesParts, is_series, limits_of_series, series_by, series_by_parts, series_parts, series_where}
use Rattle.spec_series.specs.SeriesLimits.{wall_seconds}
use Rattle.spec_series.specs.declared.series.Series.{Series}

keeps_limits : (s : Series) → is_series (series_parts s) ≡ true
keeps_limits s =
    let lasts : nat_le (wall_seconds s.length) 31622400 ≡ true = let h = s.length_in in grind (arith, nat_tests) in
    let rules : nat_le (count s.rules) 4 ≡ true = let h = s.few_rules in grind (arith, nat_tests) in
    let exceptions : nat_le (count s.exceptions) 128 ≡ true = let h = s.few_exceptions in grind (arith, nat_tests) in
    and_from _ _ s.start_in (and_from _ _ lasts (and_from _ _ rules
    (and_from _ _ exceptions (and_from _ _ s.exceptions_in (and_from _ _ s.exceptions_short s.exceptions_distinct)))))

limits_are_one : (p : SeriesParts) (a b : IsSeries p) → a ≡ b
limits_are_one p = hlevel (le_prop, Bool-set)

own_limits : (s : Series) → IsSeries (series_parts s)
own_limits s = record {
  start = s.start_in;
  length = s.length_in;
  few_rules = s.few_rules;
  few_exceptions = s.few_exceptions;
  exceptions = s.exceptions_in;
  exceptions_short = s.exceptions_short;
  exceptions_distinct = s.exceptions_distinct;
}

is_same : (s : Series) (limits : IsSeries (series_parts s)) → series_by (series_parts s) limits ≡ s
unfolding own_limits
is_same s limits = ap (series_by (series_parts s)) (limits_are_one (series_parts s) limits (own_limits s))

by_test : (s : Series) (b : Bool) (h : is_series (series_parts s) ≡ b) → b ≡ true → series_where (series_parts s) b h ≡ Some s
by_test s false h e = cc
by_test s true h e = ap Some (is_same s (limits_of_series (series_parts s) h))

parts_by : (p : SeriesParts) (b : Bool) (h : is_series p ≡ b) (s : Series) → series_where p b h ≡ Some s → series_parts s ≡ p
parts_by p false h s e = absurd (none-some s e)
parts_by p true h s e = ap series_parts (sym (same_Some (series_by p (limits_of_series p h)) s e))

pub parts_back : (p : SeriesParts) (s : Series) → series_by_parts p ≡ Some s → series_parts s ≡ p
unfolding series_by_parts
parts_back p s e = parts_by p (is_series p) refl s e

pub series_back : (s : Series) → series_by_parts (series_parts s) ≡ Some s
unfolding series_by_parts
series_back s = by_test s (is_series (series_parts s)) refl (keeps_limits s)
