-- Rules of recurrence nest at most 5 deep.
use Rattle.std.proofs.Common.{◌≡◌, ◌≤◌, ◌||◌, ℕ, ℤ, suc, List, [], ◌∷◌, Bool, true, false, cond, Option, Some, None, codes, refl, sym, ap, ◌∙◌, arith, nat_le, length, inl, inr}
use Rattle.std.proofs.lemmas.Bool.{and_parts, false≢true, or_cases}
use Rattle.std.proofs.lemmas.Slice.Eq.{bytes_eq-Decides}
use Rattle.std.specs.Prelude.{is_some, option_and_then}
use Rattle.std.specs.List.{list_any}
use Rattle.std.specs.Str.{bytes_eq}
use Rattle.kept_account.proofs.Shallow.{items_within, members_within, some_mapped, some_then, value_passes}
use Rattle.spec_json.specs.Data.{Data, Members, depth, item, list, list_of, lookup, no_items, null, object, pairs_of, text, truth, whole}
use Rattle.spec_json.specs.Fit.{IsFit}
use Rattle.spec_json.specs.Parts.{all_some, as_text, as_whole}
use Rattle.spec_series.specs.RuleObjects.{Readings, applied, each_in, end_in, frequency_in, frequency_named, frequency_of, has_only, has_right_words, interval_in, is_absent, is_nday_object, is_rule_object, is_word_or_absent, local_at, month_in, nday_in, nday_names, nday_of, nth_in, parts_read, place_in, place_of, present, present_at, readings_of, rule_in, rule_names, rule_with, rules_in, settled_rule, skip_in, skip_named, thousand_in, thousand_of, week_start_in, weekday_in, weekday_named}
use Rattle.spec_series.specs.declared.by_part.End.TheVariants.{Count, Until}
use Rattle.spec_series.specs.declared.by_part.Freq.{Freq}
use Rattle.spec_series.specs.declared.by_part.Freq.TheVariants.{Daily, Weekly, Monthly, Yearly}
use Rattle.spec_time.specs.LocalTimes.{local_in}
use Rattle.spec_time.specs.Walls.{day_of_wall}

chosen : {A : Type 0} (b : Bool) (o : Option A) → is_some (cond b o None) ≡ true → (b ≡ true) × (is_some o ≡ true)
chosen true o h = (refl, h)
chosen false o h = absurd (false≢true h)

-- ---- single values

text_flat : {B : Type 0} (f : List ℕ → Option B) (d : Data) → is_some (option_and_then f (as_text d)) ≡ true → depth d ≡ 0
text_flat f (text s) h = refl
text_flat f null h = absurd (false≢true h)
text_flat f (truth b) h = absurd (false≢true h)
text_flat f (whole n) h = absurd (false≢true h)
text_flat f (list ds) h = absurd (false≢true h)
text_flat f (object ms) h = absurd (false≢true h)

whole_flat : {B : Type 0} (f : ℤ → Option B) (d : Data) → is_some (option_and_then f (as_whole d)) ≡ true → depth d ≡ 0
whole_flat f (whole n) h = refl
whole_flat f null h = absurd (false≢true h)
whole_flat f (truth b) h = absurd (false≢true h)
whole_flat f (text s) h = absurd (false≢true h)
whole_flat f (list ds) h = absurd (false≢true h)
whole_flat f (object ms) h = absurd (false≢true h)

word_flat : (word : List ℕ) (d : Data) → is_word_or_absent word (Some d) ≡ true → depth d ≡ 0
word_flat word (text s) h = refl
word_flat word null h = absurd (false≢true h)
word_flat word (truth b) h = absurd (false≢true h)
word_flat word (whole n) h = absurd (false≢true h)
word_flat word (list ds) h = absurd (false≢true h)
word_flat word (object ms) h = absurd (false≢true h)

flat_within : (n : ℕ) (d : Data) → depth d ≡ 0 → depth d ≤ n
flat_within n d flat = omega (arith, flat)

absent_flat : (d : Data) → is_absent d ≡ true → depth d ≤ 1
absent_flat null h = omega arith
absent_flat (list no_items) h = omega arith
absent_flat (list (item d ds)) h = absurd (false≢true h)
absent_flat (truth b) h = omega arith
absent_flat (whole n) h = omega arith
absent_flat (text s) h = omega arith
absent_flat (object ms) h = absurd (false≢true h)

-- ---- lists of values

each_within : {X : Type 0} (f : Data → Option X) (n : ℕ) (d : Data) → IsFit d → is_some (each_in f (Some d)) ≡ true → ((e : Data) → IsFit e → is_some (f e) ≡ true → depth e ≤ n) → depth d ≤ suc n
each_within f n (list ds) fit h each = let inner = items_within f n ds fit h each in omega (arith, inner)
each_within f n null fit h each = absurd (false≢true h)
each_within f n (truth b) fit h each = absurd (false≢true h)
each_within f n (whole z) fit h each = absurd (false≢true h)
each_within f n (text s) fit h each = absurd (false≢true h)
each_within f n (object ms) fit h each = absurd (false≢true h)

places_within : (most : ℕ) (d : Data) → IsFit d → is_some (each_in (place_in most) (Some d)) ≡ true → depth d ≤ 3
places_within most d fit h =
    let one = each_within (place_in most) 0 d fit h (λ e f g. let flat = whole_flat (place_of most) e g in omega (arith, flat)) in omega (arith, one)

months_within : (d : Data) → IsFit d → is_some (each_in month_in (Some d)) ≡ true → depth d ≤ 3
months_within d fit h = let one = each_within month_in 0 d fit h (λ e f g. let flat = text_flat _ e g in omega (arith, flat)) in omega (arith, one)

-- ---- members that aren't absent

-- a value that isn't absent is present at its key
there : (k : List ℕ) (ms : Members) (d : Data) → lookup k (pairs_of ms) ≡ Some d → is_absent d ≡ false → present_at k (object ms) ≡ Some d
there k ms d found here = ap (option_and_then present) found ∙ rw here refl

-- the same at an equal key
there_too : (k name : List ℕ) (ms : Members) (d : Data) → lookup k (pairs_of ms) ≡ Some d → is_absent d ≡ false → bytes_eq k name ≡ true → present_at name (object ms) ≡ Some d
there_too k name ms d found here same = ap (λ n. present_at n (object ms)) (sym ((bytes_eq-Decides k name).0 same)) ∙ there k ms d found here

-- a value that is present at this key is no deeper
abbrev NoDeeperAt : ℕ → Members → List ℕ → Type 0
NoDeeperAt n ms name = (d : Data) → IsFit d → present_at name (object ms) ≡ Some d → depth d ≤ n

-- nor is one at any of these keys
abbrev NoneDeeper : ℕ → Members → List (List ℕ) → Type 0
NoneDeeper n ms [] = Unit {0}
NoneDeeper n ms (name ∷ names) = NoDeeperAt n ms name × NoneDeeper n ms names

among_names : (n : ℕ) (ms : Members) (names : List (List ℕ)) → NoneDeeper n ms names → (k : List ℕ) (d : Data) → IsFit d → lookup k (pairs_of ms) ≡ Some d → is_absent d ≡ false
    → list_any (λ name. bytes_eq k name) names ≡ true → depth d ≤ n
among_names n ms [] none k d fit found here named = absurd (false≢true named)
among_names n ms (name ∷ names) none k d fit found here named = elim (or_cases (bytes_eq k name) (list_any (λ m. bytes_eq k m) names) named) [
  | inl same ↦ none.0 d fit (there_too k name ms d found here same)
  | inr later ↦ among_names n ms names none.1 k d fit found here later
]

value_within : (n : ℕ) (ms : Members) (names : List (List ℕ)) → NoneDeeper (suc n) ms names → (k : List ℕ) (d : Data) → IsFit d → lookup k (pairs_of ms) ≡ Some d
    → (b : Bool) → is_absent d ≡ b → (list_any (λ name. bytes_eq k name) names || b) ≡ true → depth d ≤ suc n
value_within n ms names none k d fit found true e named = let flat = absent_flat d e in omega (arith, flat)
value_within n ms names none k d fit found false e named = elim (or_cases (list_any (λ name. bytes_eq k name) names) false named) [
  | inl one ↦ among_names (suc n) ms names none k d fit found e one
  | inr later ↦ absurd (false≢true later)
]

-- an object that has members of these names alone is no deeper than what is told of each name
pub only_within : (n : ℕ) (ms : Members) (names : List (List ℕ)) → IsFit (object ms) → has_only names (object ms) ≡ true → NoneDeeper (suc n) ms names → depth (object ms) ≤ suc (suc n)
only_within n ms names fit only none =
    let inner = members_within (suc n) ms fit.0 fit.1 (λ k d found dfit. value_within n ms names none k d dfit found (is_absent d) refl
    (value_passes (λ j e. list_any (λ name. bytes_eq j name) names || is_absent e) k (pairs_of ms) d only found)) in
    omega (arith, inner)

-- ---- days of the week

nth_flat : (f : Freq) (d : Data) → is_some (nth_in f (Some d)) ≡ true → depth d ≡ 0
nth_flat Daily d h = absurd (false≢true h)
nth_flat Weekly d h = absurd (false≢true h)
nth_flat Monthly d h = whole_flat (place_of 53) d (some_mapped _ (place_in 53 d) h)
nth_flat Yearly d h = whole_flat (place_of 53) d (some_mapped _ (place_in 53 d) h)

nday_parts : (day : Option ℕ) (nth : Option (Option ℤ)) → is_some (nday_of day nth) ≡ true → (is_some day ≡ true) × (is_some nth ≡ true)
nday_parts None nth h = absurd (false≢true h)
nday_parts (Some d) nth h = (refl, some_mapped _ nth h)

nday_within : (f : Freq) (d : Data) → IsFit d → is_some (nday_in f d) ≡ true → depth d ≤ 2
nday_within f (object ms) fit h =
    let day = option_and_then weekday_in (present_at (codes "day") (object ms)) in
    let nth = nth_in f (present_at (codes "nthOfPeriod") (object ms)) in
    let good = chosen (is_nday_object (object ms)) (nday_of day nth) h in
    let form = and_parts (has_only nday_names (object ms)) (is_word_or_absent (codes "NDay") (present_at (codes "@type") (object ms))) good.0 in
    let parts = nday_parts day nth good.1 in
    let by_type : NoDeeperAt 1 ms (codes "@type") = λ d dfit is. flat_within 1 d (word_flat (codes "NDay") d (ap (is_word_or_absent (codes "NDay")) (sym is) ∙ form.1)) in
    let by_day : NoDeeperAt 1 ms (codes "day") = λ d dfit is. flat_within 1 d (text_flat weekday_named d (ap (λ o. is_some (option_and_then weekday_in o)) (sym is) ∙ parts.0)) in
    let by_nth : NoDeeperAt 1 ms (codes "nthOfPeriod") = λ d dfit is. flat_within 1 d (nth_flat f d (ap (λ o. is_some (nth_in f o)) (sym is) ∙ parts.1)) in
    only_within 0 ms nday_names fit form.0 (by_type, (by_day, (by_nth, tt)))
nday_within f null fit h = omega arith
nday_within f (truth b) fit h = omega arith
nday_within f (whole n) fit h = omega arith
nday_within f (text s) fit h = omega arith
nday_within f (list ds) fit h = absurd (false≢true h)

-- ---- the members of a rule

abbrev AllRead : Readings → Type 0
AllRead r = (is_some r.frequency ≡ true) × (is_some r.interval ≡ true) × (is_some r.week_start ≡ true) × (is_some r.end ≡ true) × (is_some r.skip ≡ true)
    × (is_some r.by_day ≡ true) × (is_some r.by_month_day ≡ true) × (is_some r.by_month ≡ true) × (is_some r.by_year_day ≡ true) × (is_some r.by_set ≡ true)

both_there : {X Y : Type 0} (f : Option (X → Y)) (o : Option X) → is_some (applied f o) ≡ true → (is_some f ≡ true) × (is_some o ≡ true)
both_there None o h = absurd (false≢true h)
both_there (Some f) o h = (refl, some_mapped f o h)

all_read : (r : Readings) → is_some (parts_read r) ≡ true → AllRead r
unfolding parts_read
all_read r h =
    let set = both_there _ r.by_set h in
    let year_day = both_there _ r.by_year_day set.0 in
    let month = both_there _ r.by_month year_day.0 in
    let month_day = both_there _ r.by_month_day month.0 in
    let day = both_there _ r.by_day month_day.0 in
    let skip = both_there _ r.skip day.0 in
    let end = both_there _ r.end skip.0 in
    let week = both_there _ r.week_start end.0 in
    let interval = both_there _ r.interval week.0 in
    (some_mapped rule_with r.frequency interval.0, interval.1, week.1, end.1, skip.1, day.1, month_day.1, month.1, year_day.1, set.1)

count_flat : (c : Data) (u : Option Data) → is_some (end_in (Some c) u) ≡ true → depth c ≡ 0
count_flat c None h = whole_flat thousand_of c (some_mapped Count (thousand_in c) h)
count_flat c (Some u) h = absurd (false≢true h)

until_flat : (c : Option Data) (u : Data) → is_some (end_in c (Some u)) ≡ true → depth u ≡ 0
until_flat None u h = text_flat local_in u (some_mapped Until (local_at u) h)
until_flat (Some c) u h = absurd (false≢true h)

days_within : (f : Option Freq) (d : Data) → IsFit d → is_some (option_and_then (λ q. each_in (nday_in q) (Some d)) f) ≡ true → depth d ≤ 3
days_within None d fit h = absurd (false≢true h)
days_within (Some f) d fit h = each_within (nday_in f) 2 d fit h (nday_within f)

module _ (ms : Members) (read : AllRead (readings_of (object ms))) (words : has_right_words (object ms) ≡ true) where
  abbrev at : List ℕ → Option Data
  at key = present_at key (object ms)

  both_words : (is_word_or_absent (codes "RecurrenceRule") (at (codes "@type")) ≡ true) × (is_word_or_absent (codes "gregorian") (at (codes "rscale")) ≡ true)
  both_words = and_parts (is_word_or_absent (codes "RecurrenceRule") (at (codes "@type"))) (is_word_or_absent (codes "gregorian") (at (codes "rscale"))) words

  by_type : NoDeeperAt 3 ms (codes "@type")
  by_type d fit is = flat_within 3 d (word_flat (codes "RecurrenceRule") d (ap (is_word_or_absent (codes "RecurrenceRule")) (sym is) ∙ both_words.0))

  by_frequency : NoDeeperAt 3 ms (codes "frequency")
  by_frequency d fit is = flat_within 3 d (text_flat frequency_named d (ap (λ o. is_some (option_and_then frequency_in o)) (sym is) ∙ read.0))

  by_interval : NoDeeperAt 3 ms (codes "interval")
  by_interval d fit is = flat_within 3 d (whole_flat thousand_of d (ap (λ o. is_some (interval_in o)) (sym is) ∙ read.1))

  by_scale : NoDeeperAt 3 ms (codes "rscale")
  by_scale d fit is = flat_within 3 d (word_flat (codes "gregorian") d (ap (is_word_or_absent (codes "gregorian")) (sym is) ∙ both_words.1))

  by_skip : NoDeeperAt 3 ms (codes "skip")
  by_skip d fit is = flat_within 3 d (text_flat skip_named d (ap (λ o. is_some (skip_in o)) (sym is) ∙ read.4))

  by_week_start : NoDeeperAt 3 ms (codes "firstDayOfWeek")
  by_week_start d fit is = flat_within 3 d (text_flat weekday_named d (ap (λ o. is_some (week_start_in o)) (sym is) ∙ read.2))

  by_days : NoDeeperAt 3 ms (codes "byDay")
  by_days d fit is = days_within (frequency_of (object ms)) d fit (ap (λ o. is_some (option_and_then (λ f. each_in (nday_in f) o) (frequency_of (object ms)))) (sym is) ∙ read.5)

  by_month_days : NoDeeperAt 3 ms (codes "byMonthDay")
  by_month_days d fit is = places_within 31 d fit (ap (λ o. is_some (each_in (place_in 31) o)) (sym is) ∙ read.6)

  by_months : NoDeeperAt 3 ms (codes "byMonth")
  by_months d fit is = months_within d fit (ap (λ o. is_some (each_in month_in o)) (sym is) ∙ read.7)

  by_year_days : NoDeeperAt 3 ms (codes "byYearDay")
  by_year_days d fit is = places_within 366 d fit (ap (λ o. is_some (each_in (place_in 366) o)) (sym is) ∙ read.8)

  by_set : NoDeeperAt 3 ms (codes "bySetPosition")
  by_set d fit is = places_within 366 d fit (ap (λ o. is_some (each_in (place_in 366) o)) (sym is) ∙ read.9)

  by_count : NoDeeperAt 3 ms (codes "count")
  by_count d fit is = flat_within 3 d (count_flat d (at (codes "until")) (ap (λ o. is_some (end_in o (at (codes "until")))) (sym is) ∙ read.3))

  by_until : NoDeeperAt 3 ms (codes "until")
  by_until d fit is = flat_within 3 d (until_flat (at (codes "count")) d (ap (λ o. is_some (end_in (at (codes "count")) o)) (sym is) ∙ read.3))

  none_deeper : NoneDeeper 3 ms rule_names
  none_deeper = (by_type, (by_frequency, (by_interval, (by_scale, (by_skip, (by_week_start, (by_days, (by_month_days, (by_months, (by_year_days, (by_set, (by_count, (by_until, tt)))))))))))))

rule_within : (n : ℤ) (d : Data) → IsFit d → is_some (rule_in n d) ≡ true → depth d ≤ 4
unfolding rule_in
rule_within n (object ms) fit h =
    let good = chosen (is_rule_object (object ms)) (option_and_then (settled_rule n) (parts_read (readings_of (object ms)))) h in
    let form = and_parts (has_only rule_names (object ms)) (has_right_words (object ms)) good.0 in
    let parts = some_then (settled_rule n) (parts_read (readings_of (object ms))) good.1 in
    only_within 2 ms rule_names fit form.0 (none_deeper ms (all_read (readings_of (object ms)) (ap is_some parts.1)) form.1)
rule_within n null fit h = omega arith
rule_within n (truth b) fit h = omega arith
rule_within n (whole z) fit h = omega arith
rule_within n (text s) fit h = omega arith
rule_within n (list ds) fit h = absurd (false≢true h)

-- the rules of a series
pub rules_within : (start : ℤ) (d : Data) → IsFit d → is_some (rules_in start d) ≡ true → depth d ≤ 5
rules_within start (list ds) fit h =
    let good = chosen (nat_le (length (list_of ds)) 4) (all_some (rule_in (day_of_wall start)) (list_of ds)) h in
    let inner = items_within (rule_in (day_of_wall start)) 4 ds fit good.1 (rule_within (day_of_wall start)) in
    omega (arith, inner)
rules_within start null fit h = omega arith
rules_within start (truth b) fit h = omega arith
rules_within start (whole n) fit h = omega arith
rules_within start (text s) fit h = omega arith
rules_within start (object ms) fit h = absurd (false≢true h)
