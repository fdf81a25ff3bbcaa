-- Recurrence rules as JSON objects (RFC 8984 section 4.3.3, in the profile of this project).
use Rattle.std.specs.Prelude.{map, ℕ, ℤ, pos, int_le, List, [], ◌∷◌, ◌++◌, ◌&&◌, ◌||◌, ◌==◌, Bool, true, false, not, Option, Some, None, codes, decimal, is_some, length, nat_le, option_and_then, option_map, unsigned_abs, if◌then◌else◌}
use Rattle.std.specs.List.{list_all, list_any}
use Rattle.std.specs.Str.{bytes_eq}
use Rattle.spec_json.specs.Data.{Data, Pair, null, whole, text, list, object, no_items, field, items_of, members_of}
use Rattle.spec_json.specs.Number.{number_in}
use Rattle.spec_json.specs.Parts.{all_some, as_list, as_text, as_whole, members_in}
use Rattle.spec_time.specs.CivilDay.{day_of_month, month_of, weekday_of}
use Rattle.spec_series.specs.declared.by_part.Freq.{Freq}
use Rattle.spec_series.specs.declared.by_part.Freq.TheVariants.{Daily, Weekly, Monthly, Yearly}
use Rattle.spec_series.specs.declared.by_part.End.{End}
use Rattle.spec_series.specs.declared.by_part.End.TheVariants.{Never, Count, Until}
use Rattle.spec_series.specs.declared.by_part.NDay.{NDay}
use Rattle.spec_series.specs.declared.by_part.Skip.{Skip}
use Rattle.spec_series.specs.declared.by_part.Skip.TheVariants.{Omit, Backward, Forward}
use Rattle.spec_series.specs.declared.rule.Rule.{Rule}
use Rattle.spec_time.specs.LocalTimes.{local_in, local_text}
use Rattle.spec_series.specs.RuleLimits.{is_empty, is_place_to, is_skip, are_year_days}
use Rattle.spec_time.specs.Walls.{day_of_wall}

-- the members of a rule
pub record RuleParts : Type 0 where
  pub frequency : Freq
  pub interval : ℕ
  pub week_start : ℕ
  pub by_day : List NDay
  pub by_month_day : List ℤ
  pub by_month : List ℤ
  pub by_year_day : List ℤ
  pub by_set : List ℤ
  pub skip : Skip
  pub end : End

abbrev pub parts_of : Rule → RuleParts
parts_of r = record { frequency = r.frequency; interval = r.interval; week_start = r.week_start; by_day = r.by_day; by_month_day = r.by_month_day; by_month = r.by_month; by_year_day = r.by_year_day; by_set = r.by_set; skip = r.skip; end = r.end }

-- Members that are left out: null and an empty list count as absent.

abbrev pub is_absent : Data → Bool
is_absent null = true
is_absent (list no_items) = true
is_absent _ = false

abbrev pub present : Data → Option Data
present d = if is_absent d then None else Some d

abbrev pub present_at : List ℕ → Data → Option Data
present_at key d = option_and_then present (field key d)

-- each member that isn't absent has one of these names
abbrev pub has_only : List (List ℕ) → Data → Bool
has_only names d = list_all (λ p. list_any (λ name. bytes_eq p.0 name) names || is_absent p.1) (members_in d)

-- absent, or this very word
abbrev pub is_word_or_absent : List ℕ → Option Data → Bool
is_word_or_absent word None = true
is_word_or_absent word (Some (text s)) = bytes_eq s word
is_word_or_absent word (Some _) = false

-- Single values.

unfoldable pub weekday_named : List ℕ → Option ℕ
weekday_named s =
    if bytes_eq s (codes "mo") then Some 0 else (if bytes_eq s (codes "tu") then Some 1 else (if bytes_eq s (codes "we") then Some 2
    else (if bytes_eq s (codes "th") then Some 3 else (if bytes_eq s (codes "fr") then Some 4 else (if bytes_eq s (codes "sa") then Some 5
    else (if bytes_eq s (codes "su") then Some 6 else None))))))

abbrev pub weekday_in : Data → Option ℕ
weekday_in d = option_and_then weekday_named (as_text d)

unfoldable pub frequency_named : List ℕ → Option Freq
frequency_named s =
    if bytes_eq s (codes "daily") then Some Daily else (if bytes_eq s (codes "weekly") then Some Weekly
    else (if bytes_eq s (codes "monthly") then Some Monthly else (if bytes_eq s (codes "yearly") then Some Yearly else None)))

abbrev pub frequency_in : Data → Option Freq
frequency_in d = option_and_then frequency_named (as_text d)

unfoldable pub skip_named : List ℕ → Option Skip
skip_named s =
    if bytes_eq s (codes "omit") then Some Omit else (if bytes_eq s (codes "backward") then Some Backward
    else (if bytes_eq s (codes "forward") then Some Forward else None))

-- a number from 1 to 1000
abbrev pub thousand_of : ℤ → Option ℕ
thousand_of n = if int_le (pos 1) n && int_le n (pos 1000) then Some (unsigned_abs n) else None

abbrev pub thousand_in : Data → Option ℕ
thousand_in d = option_and_then thousand_of (as_whole d)

abbrev pub local_at : Data → Option ℤ
local_at d = option_and_then local_in (as_text d)

-- a place, from the front or from the end
abbrev pub place_of : ℕ → ℤ → Option ℤ
place_of most k = if is_place_to most k then Some k else None

abbrev pub place_in : ℕ → Data → Option ℤ
place_in most d = option_and_then (place_of most) (as_whole d)

-- "1" to "12"
abbrev pub month_of_number : ℕ → Option ℤ
month_of_number n = if nat_le 1 n && nat_le n 12 then Some (pos n) else None

abbrev pub month_in : Data → Option ℤ
month_in d = option_and_then (λ s. option_and_then month_of_number (number_in s)) (as_text d)

-- An item of `byDay`.

abbrev pub nday_names : List (List ℕ)
nday_names = codes "@type" ∷ codes "day" ∷ codes "nthOfPeriod" ∷ []

-- a place of the day in its month or year, only where periods are months or years
abbrev pub nth_in : Freq → Option Data → Option (Option ℤ)
nth_in f None = Some None
nth_in Daily (Some d) = None
nth_in Weekly (Some d) = None
nth_in Monthly (Some d) = option_map (λ k. Some k) (place_in 53 d)
nth_in Yearly (Some d) = option_map (λ k. Some k) (place_in 53 d)

abbrev pub nday_of : Option ℕ → Option (Option ℤ) → Option NDay
nday_of day nth = option_and_then (λ d. option_map (λ k. record { day = d; nth = k }) nth) day

abbrev pub is_nday_object : Data → Bool
is_nday_object (object ms) = has_only nday_names (object ms) && is_word_or_absent (codes "NDay") (present_at (codes "@type") (object ms))
is_nday_object _ = false

abbrev pub nday_in : Freq → Data → Option NDay
nday_in f d =
    if is_nday_object d then nday_of (option_and_then weekday_in (present_at (codes "day") d)) (nth_in f (present_at (codes "nthOfPeriod") d)) else None

-- The members of a rule, each with its default.

-- f of each item of a list, where each has one; none, where there is no list
abbrev pub each_in : {X : Type 0} → (Data → Option X) → Option Data → Option (List X)
each_in f None = Some []
each_in f (Some d) = option_and_then (all_some f) (as_list d)

abbrev pub interval_in : Option Data → Option ℕ
interval_in None = Some 1
interval_in (Some d) = thousand_in d

abbrev pub week_start_in : Option Data → Option ℕ
week_start_in None = Some 0
week_start_in (Some d) = weekday_in d

abbrev pub skip_in : Option Data → Option Skip
skip_in None = Some Omit
skip_in (Some d) = option_and_then skip_named (as_text d)

-- `count` and `until`, not both
abbrev pub end_in : Option Data → Option Data → Option End
end_in None None = Some Never
end_in (Some c) None = option_map Count (thousand_in c)
end_in None (Some u) = option_map Until (local_at u)
end_in (Some c) (Some u) = None

-- The implied parts: those of the start's day that the rule leaves out.

abbrev pub is_weekly : Freq → Bool
is_weekly Weekly = true
is_weekly f = false

abbrev pub is_monthly : Freq → Bool
is_monthly Monthly = true
is_monthly f = false

abbrev pub is_yearly : Freq → Bool
is_yearly Yearly = true
is_yearly f = false

-- a yearly rule without months and days of the year, whose days of the month, or its start's, so want a month
abbrev pub is_dated_yearly : Freq → List ℤ → List ℤ → Bool
is_dated_yearly f by_month by_year_day = is_yearly f && (is_empty by_month && is_empty by_year_day)

-- a weekly rule without days of the week
abbrev pub implied_days : Freq → ℤ → List NDay → List NDay
implied_days f n by_day = if is_weekly f && is_empty by_day then record { day = weekday_of n; nth = None } ∷ [] else by_day

-- a monthly rule, or a yearly one without days of the year, that has no days of the week and of the month
abbrev pub implied_month_days : Freq → ℤ → List NDay → List ℤ → List ℤ → List ℤ
implied_month_days f n by_day by_month_day by_year_day =
    if (is_monthly f || (is_yearly f && is_empty by_year_day)) && (is_empty by_day && is_empty by_month_day) then pos (day_of_month n) ∷ [] else by_month_day

-- a yearly rule without days of the year and months, and with days of the month or without days of the week
abbrev pub implied_months : Freq → ℤ → List NDay → List ℤ → List ℤ → List ℤ → List ℤ
implied_months f n by_day by_month_day by_month by_year_day =
    if is_dated_yearly f by_month by_year_day && (not (is_empty by_month_day) || is_empty by_day) then pos (month_of n) ∷ [] else by_month

-- with them; n is the start's day
abbrev pub filled : ℤ → RuleParts → RuleParts
filled n p = record {
  frequency = p.frequency;
  interval = p.interval;
  week_start = p.week_start;
  by_day = implied_days p.frequency n p.by_day;
  by_month_day = implied_month_days p.frequency n p.by_day p.by_month_day p.by_year_day;
  by_month = implied_months p.frequency n p.by_day p.by_month_day p.by_month p.by_year_day;
  by_year_day = p.by_year_day;
  by_set = p.by_set;
  skip = p.skip;
  end = p.end;
}

-- The months that are given tell whether places of days are counted in the month or in the year. So a rule is refused in which
-- an implied month would tell otherwise: a yearly one with days of the month and places of days of the week, and no months.
abbrev pub is_settled_by : Freq → List NDay → List ℤ → List ℤ → List ℤ → Bool
is_settled_by f by_day by_month_day by_month by_year_day =
    not (is_dated_yearly f by_month by_year_day && (not (is_empty by_month_day) && list_any (λ x. is_some x.nth) by_day))

abbrev pub is_settled : RuleParts → Bool
is_settled p = is_settled_by p.frequency p.by_day p.by_month_day p.by_month p.by_year_day

-- days of the year stand in yearly rules alone, and dates are moved where they are days of the month alone
abbrev pub fits_frequency : RuleParts → Bool
fits_frequency p =
    are_year_days p.frequency p.by_year_day && is_skip p.skip p.frequency p.by_day p.by_month_day p.by_year_day p.by_set

-- The rule.

abbrev pub rule_names : List (List ℕ)
rule_names =
    codes "@type" ∷ codes "frequency" ∷ codes "interval" ∷ codes "rscale" ∷ codes "skip" ∷ codes "firstDayOfWeek" ∷ codes "byDay"
    ∷ codes "byMonthDay" ∷ codes "byMonth" ∷ codes "byYearDay" ∷ codes "bySetPosition" ∷ codes "count" ∷ codes "until" ∷ []

abbrev pub has_right_words : Data → Bool
has_right_words d =
    is_word_or_absent (codes "RecurrenceRule") (present_at (codes "@type") d)
    && is_word_or_absent (codes "gregorian") (present_at (codes "rscale") d)

abbrev pub is_rule_object : Data → Bool
is_rule_object (object ms) = has_only rule_names (object ms) && has_right_words (object ms)
is_rule_object _ = false

abbrev pub settled_rule : ℤ → RuleParts → Option RuleParts
settled_rule n p = if is_settled p && fits_frequency (filled n p) then Some (filled n p) else None

-- what each member says, or its default; none where it says nothing that a rule may say
pub record Readings : Type 0 where
  pub frequency : Option Freq
  pub interval : Option ℕ
  pub week_start : Option ℕ
  pub end : Option End
  pub by_day : Option (List NDay)
  pub by_month_day : Option (List ℤ)
  pub by_month : Option (List ℤ)
  pub by_year_day : Option (List ℤ)
  pub by_set : Option (List ℤ)
  pub skip : Option Skip

abbrev pub frequency_of : Data → Option Freq
frequency_of d = option_and_then frequency_in (present_at (codes "frequency") d)

abbrev pub readings_of : Data → Readings
readings_of d = record {
  frequency = frequency_of d;
  interval = interval_in (present_at (codes "interval") d);
  week_start = week_start_in (present_at (codes "firstDayOfWeek") d);
  end = end_in (present_at (codes "count") d) (present_at (codes "until") d);
  by_day = option_and_then (λ f. each_in (nday_in f) (present_at (codes "byDay") d)) (frequency_of d);
  by_month_day = each_in (place_in 31) (present_at (codes "byMonthDay") d);
  by_month = each_in month_in (present_at (codes "byMonth") d);
  by_year_day = each_in (place_in 366) (present_at (codes "byYearDay") d);
  by_set = each_in (place_in 366) (present_at (codes "bySetPosition") d);
  skip = skip_in (present_at (codes "skip") d);
}

abbrev pub rule_with : Freq → ℕ → ℕ → End → Skip → List NDay → List ℤ → List ℤ → List ℤ → List ℤ → RuleParts
rule_with f i w e s by_day by_month_day by_month by_year_day by_set =
    record { frequency = f; interval = i; week_start = w; end = e; skip = s; by_day = by_day; by_month_day = by_month_day; by_month = by_month; by_year_day = by_year_day; by_set = by_set }

-- f of a value, where there are both
abbrev pub applied : {X Y : Type 0} → Option (X → Y) → Option X → Option Y
applied None o = None
applied (Some f) o = option_map f o

-- the parts, where each member says one
unfoldable pub parts_read : Readings → Option RuleParts
parts_read r =
    applied (applied (applied (applied (applied (applied (applied (applied (applied (option_map rule_with r.frequency)
    r.interval) r.week_start) r.end) r.skip) r.by_day) r.by_month_day) r.by_month) r.by_year_day) r.by_set

-- the rule that an object means, for a series whose start's day is n
unfoldable pub rule_in : ℤ → Data → Option RuleParts
rule_in n d = if is_rule_object d then option_and_then (settled_rule n) (parts_read (readings_of d)) else None

-- `recurrenceRules`: a list of at most 4 rules, for a series that starts at this wall second
abbrev pub rules_of : ℤ → List Data → Option (List RuleParts)
rules_of n ds = if nat_le (length ds) 4 then all_some (rule_in n) ds else None

abbrev pub rules_in : ℤ → Data → Option (List RuleParts)
rules_in start d = option_and_then (rules_of (day_of_wall start)) (as_list d)

-- The object of a rule. Of `count` and `until` one or both are null; `byYearDay` and `skip` stand there where they tell something.

unfoldable pub weekday_text : ℕ → List ℕ
weekday_text n =
    if n == 0 then codes "mo" else (if n == 1 then codes "tu" else (if n == 2 then codes "we" else (if n == 3 then codes "th"
    else (if n == 4 then codes "fr" else (if n == 5 then codes "sa" else codes "su")))))

unfoldable pub frequency_text : Freq → List ℕ
frequency_text Daily = codes "daily"
frequency_text Weekly = codes "weekly"
frequency_text Monthly = codes "monthly"
frequency_text Yearly = codes "yearly"

abbrev pub nth_data : Option ℤ → Data
nth_data None = null
nth_data (Some k) = whole k

abbrev pub nday_data : NDay → Data
nday_data x = object (members_of
    ((codes "@type", text (codes "NDay")) ∷ (codes "day", text (weekday_text x.day)) ∷ (codes "nthOfPeriod", nth_data x.nth) ∷ []))

abbrev pub month_data : ℤ → Data
month_data m = text (decimal (unsigned_abs m))

abbrev pub count_data : End → Data
count_data (Count c) = whole (pos c)
count_data Never = null
count_data (Until w) = null

abbrev pub until_data : End → Data
until_data (Until w) = text (local_text w)
until_data Never = null
until_data (Count c) = null

-- `byYearDay`, where it isn't empty
abbrev pub year_day_members : List ℤ → List Pair
year_day_members [] = []
year_day_members (k ∷ ks) = (codes "byYearDay", list (items_of (map whole (k ∷ ks)))) ∷ []

-- `skip`, where it isn't the default
abbrev pub skip_members : Skip → List Pair
skip_members Omit = []
skip_members Backward = (codes "skip", text (codes "backward")) ∷ []
skip_members Forward = (codes "skip", text (codes "forward")) ∷ []

unfoldable pub rule_data : RuleParts → Data
rule_data p = object (members_of
    ((codes "@type", text (codes "RecurrenceRule"))
    ∷ (codes "byDay", list (items_of (map nday_data p.by_day)))
    ∷ (codes "byMonth", list (items_of (map month_data p.by_month)))
    ∷ (codes "byMonthDay", list (items_of (map whole p.by_month_day)))
    ∷ (codes "bySetPosition", list (items_of (map whole p.by_set)))
    ∷ (year_day_members p.by_year_day
    ++ ((codes "count", count_data p.end)
    ∷ (codes "firstDayOfWeek", text (weekday_text p.week_start))
    ∷ (codes "frequency", text (frequency_text p.frequency))
    ∷ (codes "interval", whole (pos p.interval))
    ∷ (skip_members p.skip ++ ((codes "until", until_data p.end) ∷ []))))))
