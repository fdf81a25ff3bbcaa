-- Spans that are put in order and joined.
use Rattle.std.proofs.Common.{◌&&◌, ◌||◌, ◌≡◌, ◌∙◌, Bool, true, false, refl, sym, ap, arith, ℤ, pos, ◌≤ℤ◌, ◌<ℤ◌, ◌-ℤ◌, int_lt, int_le, List, [], ◌∷◌}
use Rattle.std.specs.List.Sorted.{IsPermutation, IsSortedByKey}
use Rattle.std.specs.Ordering.{int_cmp}
use Rattle.std.proofs.lemmas.Bool.{and_from, and_parts}
use Rattle.std.proofs.lemmas.Int.{by_lt_z, ints, clamps}
use Rattle.std.proofs.lemmas.List.Sorted.{All-permutation, list_any-IsPermutation}
use Rattle.std.proofs.lemmas.List.Sums.{AllPass-from_list_all, list_all-from_AllPass}
use Rattle.std.proofs.Math.Bool.{or_assoc}
use Rattle.jiff_core.proofs.SignedLemmas.{signed_arith}
use Rattle.availability.specs.Merging.{are_inside, hull, is_inside, joined_from, joined_periods}
use Rattle.availability.proofs.Runs.{lies_in_hull, no_runs, not_int_lt, of_run, run_of}
use Rattle.civil_days.proofs.Orders.{int_le_is, is_int_le}
use Rattle.occurrence_windows.proofs.SortedKeys.{first_in_order, rest_in_order}
use Rattle.rule_expand.proofs.Places.{is_late, late_is}
use Rattle.spec_windows.specs.BusyPeriods.{are_runs, is_busy, lies_in}
use Rattle.spec_windows.specs.declared.period.Period.{Period}

-- The order of the starts.

abbrev pub by_start : Period → ℤ
by_start p = p.from

abbrev pub ByStart : List Period → Type 0
ByStart ps = IsSortedByKey by_start int_cmp ps

-- none starts before this instant, nor before the one before it
abbrev rising : ℤ → List Period → Bool
rising low [] = true
rising low (p ∷ ps) = int_le low p.from && rising p.from ps

risen : (p : Period) (ps : List Period) → ByStart (p ∷ ps) → rising p.from ps ≡ true
risen p [] order = refl
risen p (q ∷ ps) order =
    let next : p.from ≤ℤ q.from = first_in_order by_start p q ps order in
    and_from (int_le p.from q.from) _ (is_int_le p.from q.from next) (risen q ps (rest_in_order by_start p (q ∷ ps) order))

rising_early : (low early : ℤ) (ps : List Period) → early ≤ℤ low → rising low ps ≡ true → rising early ps ≡ true
rising_early low early [] le h = refl
rising_early low early (p ∷ ps) le h =
    let x = and_parts (int_le low p.from) _ h in
    let after = int_le_is low p.from x.0 in
    and_from (int_le early p.from) _ (is_int_le early p.from (omega (arith, signed_arith, le, after))) x.1

-- What is joined.

busy_from : (s : Period) (ps : List Period) (u : ℤ) → rising s.from ps ≡ true → is_busy (joined_from s ps) u ≡ (lies_in u s || is_busy ps u)
unfolding joined_from
busy_from s [] u h = refl
busy_from s (p ∷ ps) u h =
    let x = and_parts (int_le s.from p.from) _ h in
    let next = int_le_is s.from p.from x.0 in
    by_lt_z s.to p.from
    (λ apart. rw (is_late s.to p.from apart) (ap (λ b. lies_in u s || b) (busy_from p ps u x.1)))
    (λ touch. rw (not_int_lt s.to p.from touch) (
    busy_from (hull s p) ps u (rising_early p.from (hull s p).from ps (omega (arith, ints, clamps)) x.1)
    ∙ ap (λ b. b || is_busy ps u) (lies_in_hull u s p next touch)
    ∙ or_assoc (lies_in u s) (lies_in u p) (is_busy ps u)))

pub joined_busy : (ps : List Period) → ByStart ps → (u : ℤ) → is_busy (joined_periods ps) u ≡ is_busy ps u
joined_busy [] order u = refl
joined_busy (p ∷ ps) order u = busy_from p ps u (risen p ps order)

-- what a span inside the window is
record IsInside (w p : Period) (ps : List Period) : Type 0 where
  pub after : w.from ≤ℤ p.from
  pub full : p.from <ℤ p.to
  pub within : p.to ≤ℤ w.to
  pub rest : are_inside w ps ≡ true

inside_of : (w p : Period) (ps : List Period) → are_inside w (p ∷ ps) ≡ true → IsInside w p ps
inside_of w p ps h =
    let all = and_parts (is_inside w p) (are_inside w ps) h in
    let a = and_parts (int_le w.from p.from) _ all.0 in
    let b = and_parts (int_lt p.from p.to) _ a.1 in
    record { after = int_le_is w.from p.from a.0; full = late_is p.from p.to b.0; within = int_le_is p.to w.to b.1; rest = all.1 }

runs_from : (w : Period) (low : ℤ) (s : Period) (ps : List Period) → low <ℤ s.from → s.from <ℤ s.to → s.to ≤ℤ w.to → rising s.from ps ≡ true → are_inside w ps ≡ true → are_runs low w.to (joined_from s ps) ≡ true
unfolding joined_from
runs_from w low s [] a b d h i = of_run low w.to s [] (record { after = a; full = b; within = d; rest = no_runs s.to w.to })
runs_from w low s (p ∷ ps) a b d h i =
    let x = and_parts (int_le s.from p.from) _ h in
    let next = int_le_is s.from p.from x.0 in
    let y = inside_of w p ps i in
    by_lt_z s.to p.from
    (λ apart. rw (is_late s.to p.from apart) (of_run low w.to s (joined_from p ps) (record { after = a; full = b; within = d; rest = runs_from w s.to p ps apart y.full y.within x.1 y.rest })))
    (λ touch. rw (not_int_lt s.to p.from touch) (runs_from w low (hull s p) ps
    (omega (arith, ints, clamps, a, next)) (omega (arith, ints, clamps, b)) (omega (arith, ints, clamps, d, y.within))
    (rising_early p.from (hull s p).from ps (omega (arith, ints, clamps)) x.1) y.rest))

pub joined_runs : (w : Period) (ps : List Period) → ByStart ps → are_inside w ps ≡ true → are_runs (w.from -ℤ pos 1) w.to (joined_periods ps) ≡ true
joined_runs w [] order i = no_runs (w.from -ℤ pos 1) w.to
joined_runs w (p ∷ ps) order i =
    let y = inside_of w p ps i in
    runs_from w (w.from -ℤ pos 1) p ps (omega (arith, signed_arith, y.after)) y.full y.within (risen p ps order) y.rest

-- The runs of spans that were put in order.

pub runs_busy : (xs ys : List Period) → IsPermutation xs ys → ByStart ys → (u : ℤ) → is_busy (joined_periods ys) u ≡ is_busy xs u
runs_busy xs ys moved order u = joined_busy ys order u ∙ sym (list_any-IsPermutation (lies_in u) xs ys moved)

pub runs_within : (w : Period) (xs ys : List Period) → IsPermutation xs ys → ByStart ys → are_inside w xs ≡ true → are_runs (w.from -ℤ pos 1) w.to (joined_periods ys) ≡ true
runs_within w xs ys moved order i =
    joined_runs w ys order (list_all-from_AllPass (is_inside w) ys (All-permutation (λ p. is_inside w p ≡ true) xs ys moved (AllPass-from_list_all (is_inside w) xs i)))

-- runs are spans
inside_runs : (w : Period) (low : ℤ) (ps : List Period) → (w.from -ℤ pos 1) ≤ℤ low → are_runs low w.to ps ≡ true → are_inside w ps ≡ true
inside_runs w low [] le h = refl
inside_runs w low (p ∷ ps) le h =
    let r = run_of low w.to p ps h in
    and_from (is_inside w p) (are_inside w ps)
    (and_from (int_le w.from p.from) _ (is_int_le w.from p.from (omega (arith, signed_arith, le, r.after))) (and_from (int_lt p.from p.to) _ (is_late p.from p.to r.full) (is_int_le p.to w.to r.within)))
    (inside_runs w p.to ps (omega (arith, signed_arith, le, r.after, r.full)) r.rest)

pub runs_inside : (w : Period) (ps : List Period) → are_runs (w.from -ℤ pos 1) w.to ps ≡ true → are_inside w ps ≡ true
runs_inside w ps h = inside_runs w (w.from -ℤ pos 1) ps (omega (arith, signed_arith)) h
