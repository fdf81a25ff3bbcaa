-- Months that overflow, and the days to which a rule moves.
use Rattle.std.proofs.Common.{◌&&◌, ◌≡◌, ◌∙◌, ℕ, ◌<◌, ◌≤◌, Bool, true, false, nat_eq, eq-eqb, eqb-true, refl, sym, ap, arith, ℤ, pos, ◌+ℤ◌, ◌<ℤ◌, ◌≤ℤ◌, Option, Some, None, IfSome}
use Rattle.std.specs.List.{list_any}
use Rattle.std.specs.Ordering.{int_eq}
use Rattle.std.proofs.lemmas.Bool.{and_parts, and_right, false_from_ne_true}
use Rattle.std.proofs.lemmas.Bool.Decides.{Decides-int_eq}
use Rattle.std.proofs.lemmas.Int.{by_lt_z}
use Rattle.jiff_core.proofs.SignedLemmas.{signed_arith}
use Rattle.spec_time.specs.CivilDay.{day_of_month, month_length, month_of, year_of}
use Rattle.spec_series.specs.declared.by_part.Freq.TheVariants.{Monthly}
use Rattle.spec_series.specs.declared.by_part.Skip.{Skip}
use Rattle.spec_series.specs.declared.by_part.Skip.TheVariants.{Omit, Backward, Forward}
use Rattle.spec_series.specs.declared.rule.Rule.{Rule}
use Rattle.spec_series.specs.Periods.{month_last, period_by, period_last}
use Rattle.spec_series.specs.Places.{empty_or_any}
use Rattle.spec_series.specs.RuleSets.{is_beyond_month, is_moved, is_overflow, month_matches, moved_from, moves}
use Rattle.spec_json.proofs.Booleans.{same_truth}
use Rattle.rule_expand.specs.Near.{IsNear}
use Rattle.rule_expand.specs.Walk.{IsFirstPlain}
use Rattle.rule_expand.proofs.Cycle.{empty_or_any-same, list_any-same}
use Rattle.rule_expand.proofs.Dates.{at_law, month_last-is}
use Rattle.rule_expand.proofs.MatchingDays.{last_after}
use Rattle.rule_expand.proofs.Next.{period-mono}
use Rattle.rule_expand.proofs.Periods.{last_same, period-last}

-- days of one month have one last day
same_month : (d n : ℤ) → d ≤ℤ n → n ≤ℤ month_last d → month_last n ≡ month_last d
unfolding period_last
same_month d n low high =
    let a = period-mono Monthly 0 d n low in
    let b = period-mono Monthly 0 n (month_last d) high in
    let e = period-last Monthly 0 d in
    last_same Monthly 0 n d (omega (arith, signed_arith, a, b, e))

month_alike : (n m k : ℤ) → month_of n ≡ month_of m → month_matches n k ≡ month_matches m k
unfolding month_matches
month_alike n m k e = rw e refl

beyond_alike : (n m k : ℤ) → year_of n ≡ year_of m → month_of n ≡ month_of m → is_beyond_month n k ≡ is_beyond_month m k
beyond_alike n m k y e = rw (y, e) refl

end_date : (d : ℤ) → (year_of (month_last d) ≡ year_of d) × (month_of (month_last d) ≡ month_of d)
unfolding period_by period_last
end_date d = let e = period-last Monthly 0 d in (omega (arith, signed_arith, e, (at_law d).0, (at_law (month_last d)).0), omega (arith, signed_arith, e, (at_law d).0, (at_law (month_last d)).0))

-- the last day of a month tells of the month of each of its days
pub over_end : (r : Rule) (d : ℤ) → is_overflow r (month_last d) ≡ (empty_or_any (month_matches d) r.by_month && list_any (is_beyond_month d) r.by_month_day)
unfolding is_overflow
over_end r d =
    let e = month_last d in
    let date = end_date d in
    let last : month_last e ≡ e = same_month d e (last_after d) (omega (arith, signed_arith)) in
    let first : int_eq e (month_last e) ≡ true = (Decides-int_eq e (month_last e)).1 (sym last) in
    let a = empty_or_any-same (month_matches e) (month_matches d) (λ k. month_alike e d k date.1) r.by_month in
    let b = list_any-same (is_beyond_month e) (is_beyond_month d) (λ k. beyond_alike e d k date.0 date.1) r.by_month_day in
    rw (first, a, b) refl

-- and no other day does
pub not_end : (r : Rule) (d n : ℤ) → d ≤ℤ n → n <ℤ month_last d → is_overflow r n ≡ false
unfolding is_overflow
not_end r d n low high =
    false_from_ne_true (is_overflow r n) (λ h.
    let e = (Decides-int_eq n (month_last n)).0 (and_parts (int_eq n (month_last n)) (empty_or_any (month_matches n) r.by_month && list_any (is_beyond_month n) r.by_month_day) h).0 in
    omega (arith, signed_arith, e, same_month d n low (omega (arith, signed_arith, high)), high))

pub none_to_next : (r : Rule) (d n : ℤ) → is_overflow r (month_last d) ≡ false → d ≤ℤ n → n <ℤ (month_last d +ℤ pos 1) → is_overflow r n ≡ false
none_to_next r d n h low high =
    by_lt_z n (month_last d)
    (λ lt. not_end r d n low lt)
    (λ ge. let e : n ≡ month_last d = omega (arith, signed_arith, ge, high) in ap (is_overflow r) e ∙ h)

pub last_by : (n : ℤ) (md len : ℕ) → md ≡ day_of_month n → len ≡ month_length (year_of n) (month_of n) → nat_eq md len ≡ int_eq n (month_last n)
last_by n md len a b =
    same_truth (nat_eq md len) (int_eq n (month_last n))
    (λ h. (Decides-int_eq n (month_last n)).1 (omega (arith, signed_arith, eqb-true md len h, month_last-is n, a, b, (at_law n).0)))
    (λ h. let e = (Decides-int_eq n (month_last n)).0 h in eq-eqb md len (omega (arith, signed_arith, e, month_last-is n, a, b, (at_law n).0)))

pub not_last : (r : Rule) (n d : ℤ) → d ≡ n → int_eq d (month_last d) ≡ false → false ≡ is_overflow r n
unfolding is_overflow
not_last r n d e h =
    let f : int_eq n (month_last n) ≡ false = ap (λ x. int_eq x (month_last x)) (sym e) ∙ h in
    rw f refl

pub last_over : (r : Rule) (n d : ℤ) → d ≡ n → (b : Bool) → int_eq d (month_last d) ≡ true → b ≡ (empty_or_any (month_matches d) r.by_month && list_any (is_beyond_month d) r.by_month_day) → b ≡ is_overflow r n
unfolding is_overflow
last_over r n d e b h g =
    let f : int_eq n (month_last n) ≡ true = ap (λ x. int_eq x (month_last x)) (sym e) ∙ h in
    rw f (g ∙ ap (λ x. empty_or_any (month_matches x) r.by_month && list_any (is_beyond_month x) r.by_month_day) e)

pub not_named : (r : Rule) (n : ℤ) → empty_or_any (month_matches n) r.by_month ≡ false → false ≡ (empty_or_any (month_matches n) r.by_month && list_any (is_beyond_month n) r.by_month_day)
not_named r n e = rw e refl

pub over_by : (r : Rule) (n : ℤ) (b : Bool) → empty_or_any (month_matches n) r.by_month ≡ true → b ≡ list_any (is_beyond_month n) r.by_month_day → b ≡ (empty_or_any (month_matches n) r.by_month && list_any (is_beyond_month n) r.by_month_day)
over_by r n b e h = rw e h

-- what a rule moves, by its `skip`
pub moved_eq : (r : Rule) (s : Skip) (m : ℤ) → r.skip ≡ s → is_moved r m ≡ (moves s && is_overflow r (moved_from s m))
unfolding is_moved
moved_eq r s m e = ap (λ x. moves x && is_overflow r (moved_from x m)) e

pub origin_eq : (r : Rule) (s : Skip) (m : ℤ) → r.skip ≡ s → moved_from r.skip m ≡ moved_from s m
origin_eq r s m e = ap (λ x. moved_from x m) e

pub near_plain : (t : ℤ → Bool) (after d : ℤ) (more : ℕ) (o : Option ℤ) → IsNear 2199023248000 d → more ≤ 366 → IfSome o (IsFirstPlain t after d more) → IfSome o (IsNear 2199023260000)
near_plain t after d more None near small h = tt
near_plain t after d more (Some n) near small h = (omega (arith, signed_arith, near, h.low), omega (arith, signed_arith, near, small, h.high))

later_origin : (s : Skip) (m : ℤ) (i : ℕ) → moved_from s (m +ℤ pos i) ≡ moved_from s m +ℤ pos i
unfolding moved_from
later_origin Omit m i = refl
later_origin Backward m i = refl
later_origin Forward m i = omega (arith, signed_arith)

-- a rule moves to no day whose origin lies before a month's end
pub none_moved : (r : Rule) (m d : ℤ) (days i : ℕ) → d ≡ moved_from r.skip m → month_last d ≡ d +ℤ pos days → i < days → is_moved r (m +ℤ pos i) ≡ false
unfolding is_moved
none_moved r m d days i e l lt =
    let o : moved_from r.skip (m +ℤ pos i) ≡ d +ℤ pos i = later_origin r.skip m i ∙ ap (λ x. x +ℤ pos i) (sym e) in
    and_right (moves r.skip) (is_overflow r (moved_from r.skip (m +ℤ pos i)))
    (ap (is_overflow r) o ∙ not_end r d (d +ℤ pos i) (omega (arith, signed_arith)) (omega (arith, signed_arith, l, lt)))
