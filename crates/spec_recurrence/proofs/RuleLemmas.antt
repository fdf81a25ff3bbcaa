-- A rule is the one that has its parts, and has no others.
use Rattle.spec_json.specs.Parts.{all_some}
use Rattle.std.proofs.Common.{List, [], ◌∷◌, map, ◌≡◌, Bool, true, false, Some, nat_le, nat_lt, refl, sym, ap, arith}
use Rattle.std.proofs.Math.Bool.{Bool-set}
use Rattle.std.proofs.Math.Bridge.{le_prop}
use Rattle.std.proofs.lemmas.Bool.{and_from}
use Rattle.std.proofs.lemmas.Bool.Decides.{nat_tests}
use Rattle.std.proofs.lemmas.Option.{none-some, same_Some}
use Rattle.spec_recurrence.specs.RulesOf.{IsWithinLimits, is_within_limits, limits_of, rule_by, rule_by_parts, rule_where}
use Rattle.spec_series.specs.RuleObjects.{RuleParts, parts_of}
use Rattle.spec_series.specs.declared.rule.Rule.{Rule}

keeps_limits : (r : Rule) → is_within_limits (parts_of r) ≡ true
keeps_limits r =
    let low : nat_le 1 r.interval ≡ true = let h = r.interval_in.0 in grind (arith, nat_tests) in
    let high : nat_le r.interval 1000 ≡ true = let h = r.interval_in.1 in grind (arith, nat_tests) in
    let week : nat_lt r.week_start 7 ≡ true = let h = r.week_start_in in grind (arith, nat_tests) in
    and_from _ _ (and_from _ _ low high) (and_from _ _ week (and_from _ _ r.by_parts_in (and_from _ _ r.end_in (and_from _ _ r.year_days_in r.skip_in))))

limits_are_one : (p : RuleParts) (a b : IsWithinLimits p) → a ≡ b
limits_are_one p = hlevel (le_prop, Bool-set)

own_limits : (r : Rule) → IsWithinLimits (parts_of r)
own_limits r = record { interval = r.interval_in; week_start = r.week_start_in; by_parts = r.by_parts_in; end = r.end_in; year_days = r.year_days_in; skip = r.skip_in }

is_same : (r : Rule) (limits : IsWithinLimits (parts_of r)) → rule_by (parts_of r) limits ≡ r
unfolding own_limits
is_same r limits = ap (rule_by (parts_of r)) (limits_are_one (parts_of r) limits (own_limits r))

by_test : (r : Rule) (b : Bool) (h : is_within_limits (parts_of r) ≡ b) → b ≡ true → rule_where (parts_of r) b h ≡ Some r
by_test r false h e = cc
by_test r true h e = ap Some (is_same r (limits_of (parts_of r) h))

pub rule_back : (r : Rule) → rule_by_parts (parts_of r) ≡ Some r
unfolding rule_by_parts
rule_back r = by_test r (is_within_limits (parts_of r)) refl (keeps_limits r)

parts_by : (p : RuleParts) (b : Bool) (h : is_within_limits p ≡ b) (r : Rule) → rule_where p b h ≡ Some r → parts_of r ≡ p
parts_by p false h r e = absurd (none-some r e)
parts_by p true h r e = ap parts_of (sym (same_Some (rule_by p (limits_of p h)) r e))

pub parts_back : (p : RuleParts) (r : Rule) → rule_by_parts p ≡ Some r → parts_of r ≡ p
unfolding rule_by_parts
parts_back p r e = parts_by p (is_within_limits p) refl r e

pub rules_back : (rs : List Rule) → all_some rule_by_parts (map parts_of rs) ≡ Some rs
rules_back [] = refl
rules_back (r ∷ rs) = rw (rule_back r, rules_back rs) refl
