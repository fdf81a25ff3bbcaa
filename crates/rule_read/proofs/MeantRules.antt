-- A rule that is read keeps within the limits of the type of a rule, so it is meant.
use Rattle.std.proofs.Common.{◌≡◌, ◌==◌, ◌&&◌, ℕ, ℤ, pos, negsuc, Bool, true, false, List, Option, Some, None, codes, int_le, is_some, length, nat_le, nat_lt, option_and_then, option_map, unsigned_abs, if◌then◌else◌, arith, refl, sym, subst}
use Rattle.std.specs.List.{list_all}
use Rattle.std.specs.Prelude.{IfSome}
use Rattle.std.proofs.lemmas.Bool.{and_from, and_parts}
use Rattle.std.proofs.lemmas.Bool.Decides.{nat_tests}
use Rattle.std.proofs.lemmas.Int.{ints}
use Rattle.std.proofs.lemmas.Option.{none-some, same_Some}
use Rattle.spec_json.specs.Data.{Data}
use Rattle.spec_json.specs.Parts.{as_text, as_whole}
use Rattle.spec_recurrence.specs.RulesOf.{has_by_parts, is_interval, is_within_limits, rule_by_parts, rule_where}
use Rattle.spec_series.specs.RuleLimits.{is_end, is_month, is_nday, is_place_to}
use Rattle.spec_series.specs.RuleObjects.{RuleParts, each_in, end_in, filled, fits_frequency, frequency_of, interval_in, local_at, month_in, nday_in, place_in, present_at, rule_in, thousand_in, thousand_of, week_start_in}
use Rattle.spec_series.specs.declared.by_part.End.{End}
use Rattle.spec_series.specs.declared.by_part.End.TheVariants.{Count, Never, Until}
use Rattle.spec_series.specs.declared.by_part.Freq.{Freq}
use Rattle.spec_series.specs.declared.by_part.NDay.{NDay}
use Rattle.spec_time.specs.Forms.{fits_form, fits_marks}
use Rattle.spec_time.specs.LocalTimes.{local_in, spaced_wall}
use Rattle.spec_time.specs.Walls.{is_in_years}
use Rattle.time_text.proofs.DateLemmas.{spaced_in_years}
use Rattle.rule_read.proofs.ListLemmas.{day_pass, days_pass, each_pass, month_pass, place_pass}
use Rattle.rule_read.proofs.ReadingLemmas.{made}
use Rattle.rule_read.proofs.RuleLemmas.{filled_parts}

-- The members beside the lists.

thousand_by : (z : ℤ) (n : ℕ) (b : Bool) → (int_le (pos 1) z && int_le z (pos 1000)) ≡ b → (if b then Some (unsigned_abs z) else None) ≡ Some n → is_interval n ≡ true
thousand_by z n false e h = absurd (none-some n h)
thousand_by (negsuc k) n true e h = cc
thousand_by (pos k) n true e h =
    let p = and_parts (int_le (pos 1) (pos k)) (int_le (pos k) (pos 1000)) e in
    let same : k ≡ n = same_Some k n h in
    subst (λ m. is_interval m ≡ true) same (and_from (nat_le 1 k) (nat_le k 1000) (grind (arith, ints, nat_tests, p.0)) (grind (arith, ints, nat_tests, p.1)))

thousand_pass : (o : Option ℤ) (n : ℕ) → option_and_then thousand_of o ≡ Some n → is_interval n ≡ true
thousand_pass None n h = absurd (none-some n h)
thousand_pass (Some z) n h = thousand_by z n (int_le (pos 1) z && int_le z (pos 1000)) refl h

interval_pass : (o : Option Data) (n : ℕ) → interval_in o ≡ Some n → is_interval n ≡ true
interval_pass None n h = subst (λ m. is_interval m ≡ true) (same_Some 1 n h) refl
interval_pass (Some d) n h = thousand_pass (as_whole d) n h

week_start_pass : (o : Option Data) (n : ℕ) → week_start_in o ≡ Some n → nat_lt n 7 ≡ true
week_start_pass None n h = subst (λ m. nat_lt m 7 ≡ true) (same_Some 0 n h) refl
week_start_pass (Some d) n h = day_pass (Some d) n h

local_by : (s : List ℕ) (w : ℤ) (b : Bool) → fits_form (codes "0000-00-00T00:00:00") s ≡ b → (if b then spaced_wall s else None) ≡ Some w → is_in_years w ≡ true
local_by s w false e h = absurd (none-some w h)
local_by s w true e h =
    let marks = and_parts (length s == length (codes "0000-00-00T00:00:00")) (fits_marks (codes "0000-00-00T00:00:00") s) e in
    subst (λ o. IfSome o (λ v. is_in_years v ≡ true)) h (spaced_in_years (codes "-00-00T00:00:00") s marks.1)

local_pass : (o : Option (List ℕ)) (w : ℤ) → option_and_then local_in o ≡ Some w → is_in_years w ≡ true
local_pass None w h = absurd (none-some w h)
local_pass (Some s) w h = local_by s w (fits_form (codes "0000-00-00T00:00:00") s) refl h

count_by : (o : Option ℕ) (e : End) → ((n : ℕ) → o ≡ Some n → is_interval n ≡ true) → option_map (λ n. Count n) o ≡ Some e → is_end e ≡ true
count_by None e pass h = absurd (none-some e h)
count_by (Some n) e pass h = subst (λ x. is_end x ≡ true) (same_Some (Count n) e h) (pass n refl)

until_by : (o : Option ℤ) (e : End) → ((w : ℤ) → o ≡ Some w → is_in_years w ≡ true) → option_map (λ w. Until w) o ≡ Some e → is_end e ≡ true
until_by None e pass h = absurd (none-some e h)
until_by (Some w) e pass h = subst (λ x. is_end x ≡ true) (same_Some (Until w) e h) (pass w refl)

end_pass : (c u : Option Data) (e : End) → end_in c u ≡ Some e → is_end e ≡ true
end_pass None None e h = subst (λ x. is_end x ≡ true) (same_Some Never e h) refl
end_pass (Some c) None e h = count_by (thousand_in c) e (thousand_pass (as_whole c)) h
end_pass None (Some u) e h = until_by (local_at u) e (local_pass (as_text u)) h
end_pass (Some c) (Some u) e h = absurd (none-some e h)

-- The rule, member by member.

filled_within : (n : ℤ) (q : RuleParts) → is_interval q.interval ≡ true → nat_lt q.week_start 7 ≡ true → has_by_parts q ≡ true → is_end q.end ≡ true
    → fits_frequency (filled n q) ≡ true → is_within_limits (filled n q) ≡ true
filled_within n q interval week by_parts end fits =
    let parts = filled_parts q.frequency n q.by_day q.by_month_day q.by_month q.by_year_day q.by_set by_parts in
    and_from _ _ interval (and_from _ _ week (and_from _ _ parts (and_from _ _ end fits)))

rule_within : (n : ℤ) (d : Data) (p : RuleParts) → rule_in n d ≡ Some p → is_within_limits p ≡ true
rule_within n d p h =
    let m = made n d p h in
    let q = m.0 in
    let r = m.1.read in
    let days = days_pass (present_at (codes "byDay") d) q.frequency (frequency_of d) q.by_day r.frequency r.by_day in
    let month_days = each_pass (place_in 31) (is_place_to 31) (place_pass 31) (present_at (codes "byMonthDay") d) q.by_month_day (sym r.by_month_day) in
    let months = each_pass month_in is_month month_pass (present_at (codes "byMonth") d) q.by_month (sym r.by_month) in
    let places = each_pass (place_in 366) (is_place_to 366) (place_pass 366) (present_at (codes "bySetPosition") d) q.by_set (sym r.by_set) in
    let by_parts = and_from _ _ days (and_from _ _ month_days (and_from _ _ months places)) in
    let end = end_pass (present_at (codes "count") d) (present_at (codes "until") d) q.end r.end in
    let week = week_start_pass (present_at (codes "firstDayOfWeek") d) q.week_start r.week_start in
    let interval = interval_pass (present_at (codes "interval") d) q.interval r.interval in
    let fits = subst (λ x. fits_frequency x ≡ true) (sym m.1.filled) m.1.fits in
    subst (λ x. is_within_limits x ≡ true) m.1.filled (filled_within n q interval week by_parts end fits)

where_some : (p : RuleParts) (b : Bool) (h : is_within_limits p ≡ b) → b ≡ true → is_some (rule_where p b h) ≡ true
where_some p false h e = cc
where_some p true h e = refl

pub meant : (n : ℤ) (d : Data) (p : RuleParts) → rule_in n d ≡ Some p → is_some (rule_by_parts p) ≡ true
unfolding rule_by_parts
meant n d p h = where_some p (is_within_limits p) refl (rule_within n d p h)
