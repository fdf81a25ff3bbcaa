-- What a wish comes to, and that its rules can be read for each start or for none.
use Rattle.std.proofs.Common.{◌≡◌, ◌&&◌, ◌||◌, ℤ, pos, List, [], ◌∷◌, Bool, true, false, Option, Some, None, is_some, length, map, nat_le, option_and_then, option_map, refl, sym, ap, ◌∙◌, if◌then◌else◌}
use Rattle.spec_json.specs.Data.{Data}
use Rattle.spec_json.specs.Parts.{all_some, as_list}
use Rattle.spec_recurrence.proofs.RuleLemmas.{rules_back}
use Rattle.spec_recurrence.proofs.SeriesLemmas.{series_back}
use Rattle.spec_recurrence.specs.RulesOf.{rule_by_parts}
use Rattle.spec_recurrence.specs.SeriesOf.{series_by_parts, series_parts}
use Rattle.spec_series.specs.RuleLimits.{are_year_days, is_empty, is_skip}
use Rattle.spec_series.specs.RuleObjects.{RuleParts, filled, fits_frequency, implied_days, implied_month_days, is_monthly, is_rule_object, is_settled, is_weekly, is_yearly, parts_of, parts_read, readings_of, rule_in, rules_in, rules_of, settled_rule}
use Rattle.spec_series.specs.declared.by_part.Freq.{Freq}
use Rattle.spec_series.specs.declared.by_part.NDay.{NDay}
use Rattle.spec_series.specs.declared.by_part.Skip.{Skip}
use Rattle.spec_series.specs.declared.by_part.Skip.TheVariants.{Omit, Backward, Forward}
use Rattle.spec_series.specs.declared.series.Series.{Series}
use Rattle.spec_time.specs.CivilDay.{day_of_month, weekday_of}
use Rattle.spec_time.specs.Walls.{day_of_wall}
use Rattle.spec_slots.specs.Wishes.{wished_parts, wished_rules, wished_series}

-- The series with the wish's start, length and rules is the wished one.

rules_wished : (rules : Data) (s : Series) → rules_in s.start rules ≡ Some (map parts_of s.rules) → wished_rules rules s.start ≡ Some s.rules
rules_wished rules s h = ap (option_and_then (all_some rule_by_parts)) h ∙ rules_back s.rules

same_parts : (s : Series) → s.occupying ≡ true → s.exceptions ≡ [] → wished_parts s.length s.start s.rules ≡ series_parts s
same_parts s occupying none = rw (occupying, none) refl

pub series_wished : (rules : Data) (s : Series) → rules_in s.start rules ≡ Some (map parts_of s.rules) → s.occupying ≡ true → s.exceptions ≡ [] → wished_series s.length rules s.start ≡ Some s
unfolding wished_series
series_wished rules s h occupying none =
    ap (option_and_then (λ rs. series_by_parts (wished_parts s.length s.start rs))) (rules_wished rules s h)
    ∙ ap series_by_parts (same_parts s occupying none) ∙ series_back s

-- A rule's implied parts are of the start's day, but whether there are such isn't.

empty_by : {X : Type 0} (b : Bool) (y z : X) (xs : List X) → is_empty (if b then y ∷ [] else xs) ≡ is_empty (if b then z ∷ [] else xs)
empty_by true y z xs = refl
empty_by false y z xs = refl

empty_days : (f : Freq) (n m : ℤ) (xs : List NDay) → is_empty (implied_days f n xs) ≡ is_empty (implied_days f m xs)
empty_days f n m xs = empty_by (is_weekly f && is_empty xs) (record { day = weekday_of n; nth = None }) (record { day = weekday_of m; nth = None }) xs

empty_month_days : (f : Freq) (n m : ℤ) (days : List NDay) (xs year_days : List ℤ) → is_empty (implied_month_days f n days xs year_days) ≡ is_empty (implied_month_days f m days xs year_days)
empty_month_days f n m days xs year_days =
    empty_by ((is_monthly f || (is_yearly f && is_empty year_days)) && (is_empty days && is_empty xs)) (pos (day_of_month n)) (pos (day_of_month m)) xs

skip_alike : (s : Skip) (f : Freq) (days days' : List NDay) (month_days month_days' year_days by_set : List ℤ) → is_empty days ≡ is_empty days' → is_empty month_days ≡ is_empty month_days'
    → is_skip s f days month_days year_days by_set ≡ is_skip s f days' month_days' year_days by_set
skip_alike Omit f days days' month_days month_days' year_days by_set h k = refl
skip_alike Backward f days days' month_days month_days' year_days by_set h k = rw (h, k) refl
skip_alike Forward f days days' month_days month_days' year_days by_set h k = rw (h, k) refl

fits_alike : (n m : ℤ) (p : RuleParts) → fits_frequency (filled n p) ≡ fits_frequency (filled m p)
fits_alike n m p =
    ap (λ b. are_year_days p.frequency p.by_year_day && b)
    (skip_alike p.skip p.frequency _ _ _ _ p.by_year_day p.by_set (empty_days p.frequency n m p.by_day) (empty_month_days p.frequency n m p.by_day p.by_month_day p.by_year_day))

some_by : (b c : Bool) (p q : RuleParts) → b ≡ c → is_some (if b then Some p else None) ≡ is_some (if c then Some q else None)
some_by true c p q h = rw (sym h) refl
some_by false c p q h = rw (sym h) refl

settled_alike : (n m : ℤ) (p : RuleParts) → is_some (settled_rule n p) ≡ is_some (settled_rule m p)
settled_alike n m p = some_by _ _ (filled n p) (filled m p) (ap (λ b. is_settled p && b) (fits_alike n m p))

read_alike : (n m : ℤ) (o : Option RuleParts) → is_some (option_and_then (settled_rule n) o) ≡ is_some (option_and_then (settled_rule m) o)
read_alike n m None = refl
read_alike n m (Some p) = settled_alike n m p

when : (b : Bool) (o q : Option RuleParts) → is_some o ≡ is_some q → is_some (if b then o else None) ≡ is_some (if b then q else None)
when true o q h = h
when false o q h = refl

rule_alike : (n m : ℤ) (d : Data) → is_some (rule_in n d) ≡ is_some (rule_in m d)
unfolding rule_in
rule_alike n m d = when (is_rule_object d) _ _ (read_alike n m (parts_read (readings_of d)))

join : {X : Type 0} (o q : Option X) (xs ys : Option (List X)) → is_some o ≡ is_some q → is_some xs ≡ is_some ys
    → is_some (option_and_then (λ y. option_map (λ zs. y ∷ zs) xs) o) ≡ is_some (option_and_then (λ y. option_map (λ zs. y ∷ zs) ys) q)
join None None xs ys h k = refl
join (Some x) (Some y) None None h k = refl
join (Some x) (Some y) (Some xs) (Some ys) h k = refl
join None (Some y) xs ys h k = absurd (cc h)
join (Some x) None xs ys h k = absurd (cc h)
join (Some x) (Some y) None (Some ys) h k = absurd (cc k)
join (Some x) (Some y) (Some xs) None h k = absurd (cc k)

all_alike : (n m : ℤ) (ds : List Data) → is_some (all_some (rule_in n) ds) ≡ is_some (all_some (rule_in m) ds)
all_alike n m [] = refl
all_alike n m (d ∷ ds) = join (rule_in n d) (rule_in m d) (all_some (rule_in n) ds) (all_some (rule_in m) ds) (rule_alike n m d) (all_alike n m ds)

few_by : (b : Bool) (o q : Option (List RuleParts)) → is_some o ≡ is_some q → is_some (if b then o else None) ≡ is_some (if b then q else None)
few_by true o q h = h
few_by false o q h = refl

list_alike : (n m : ℤ) (o : Option (List Data)) → is_some (option_and_then (rules_of n) o) ≡ is_some (option_and_then (rules_of m) o)
list_alike n m None = refl
list_alike n m (Some ds) = few_by (nat_le (length ds) 4) _ _ (all_alike n m ds)

pub rules_alike : (x y : ℤ) (rules : Data) → is_some (rules_in x rules) ≡ is_some (rules_in y rules)
rules_alike x y rules = list_alike (day_of_wall x) (day_of_wall y) (as_list rules)
