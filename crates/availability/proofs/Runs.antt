-- Runs of busy instants, and one more period among them.
use Rattle.std.proofs.Common.{◌&&◌, ◌||◌, ◌≡◌, inl, inr, Bool, true, false, refl, ap, ◌∙◌, arith, ℤ, ◌≤ℤ◌, ◌<ℤ◌, int_lt, int_le, List, [], ◌∷◌, ◌++◌}
use Rattle.std.proofs.lemmas.Int.{by_lt_z, ints, clamps}
use Rattle.std.proofs.lemmas.List.Folds.{list_any-append}
use Rattle.std.proofs.lemmas.Bool.{or_left, or_right, and_from, or_cases, false_from_ne_true, and_parts}
use Rattle.std.proofs.Math.Bool.{or_comm}
use Rattle.jiff_core.proofs.SignedLemmas.{signed_arith}
use Rattle.availability.specs.Merging.{common, hull}
use Rattle.spec_windows.specs.declared.period.Period.{Period}
use Rattle.spec_windows.specs.BusyPeriods.{are_runs, lies_in, is_busy}
use Rattle.rule_expand.proofs.Places.{is_late, late_is}
use Rattle.civil_days.proofs.Orders.{int_le_is, is_int_le}
use Rattle.spec_json.proofs.Booleans.{same_truth}
use Rattle.spec_json.proofs.Booleans.{or_nothing}

pub not_int_lt : (a b : ℤ) → b ≤ℤ a → int_lt a b ≡ false
not_int_lt a b h = grind (arith, signed_arith)

-- what runs are
pub record IsRun (low high : ℤ) (p : Period) (ps : List Period) : Type 0 where
  pub after : low <ℤ p.from
  pub full : p.from <ℤ p.to
  pub within : p.to ≤ℤ high
  pub rest : are_runs p.to high ps ≡ true

pub run_of : (low high : ℤ) (p : Period) (ps : List Period) → are_runs low high (p ∷ ps) ≡ true → IsRun low high p ps
unfolding are_runs
run_of low high p ps h =
    let a = and_parts (int_lt low p.from) _ h in
    let b = and_parts (int_lt p.from p.to) _ a.1 in
    let d = and_parts (int_le p.to high) _ b.1 in
    record { after = late_is low p.from a.0; full = late_is p.from p.to b.0; within = int_le_is p.to high d.0; rest = d.1 }

pub of_run : (low high : ℤ) (p : Period) (ps : List Period) → IsRun low high p ps → are_runs low high (p ∷ ps) ≡ true
unfolding are_runs
of_run low high p ps r =
    and_from (int_lt low p.from) _ (is_late low p.from r.after) (and_from (int_lt p.from p.to) _ (is_late p.from p.to r.full) (and_from (int_le p.to high) _ (is_int_le p.to high r.within) r.rest))

pub no_runs : (low high : ℤ) → are_runs low high [] ≡ true
unfolding are_runs
no_runs low high = refl

runs_from : (low early high : ℤ) (ps : List Period) → early ≤ℤ low → are_runs low high ps ≡ true → are_runs early high ps ≡ true
runs_from low early high [] le h = no_runs early high
runs_from low early high (p ∷ ps) le h = let r = run_of low high p ps h in
    of_run early high p ps (record { after = omega (arith, signed_arith, le, r.after); full = r.full; within = r.within; rest = r.rest })

pub covers_is : (u : ℤ) (p : Period) → lies_in u p ≡ true → (p.from ≤ℤ u) × (u <ℤ p.to)
covers_is u p h = let x = and_parts (int_le p.from u) _ h in (int_le_is p.from u x.0, late_is u p.to x.1)

pub is_covers : (u : ℤ) (p : Period) → p.from ≤ℤ u → u <ℤ p.to → lies_in u p ≡ true
is_covers u p h k = and_from (int_le p.from u) _ (is_int_le p.from u h) (is_late u p.to k)

-- of two that touch
pub lies_in_hull : (u : ℤ) (s p : Period) → s.from ≤ℤ p.from → p.from ≤ℤ s.to → lies_in u (hull s p) ≡ (lies_in u s || lies_in u p)
lies_in_hull u s p order touch = same_truth (lies_in u (hull s p)) (lies_in u s || lies_in u p)
    (λ h. let x = covers_is u (hull s p) h in
    by_lt_z u s.to
    (λ inside. or_left (lies_in u s) (lies_in u p) (is_covers u s (omega (arith, ints, clamps, x.0, order)) inside))
    (λ past. or_right (lies_in u s) (lies_in u p) (is_covers u p (omega (arith, ints, clamps, touch, past)) (omega (arith, ints, clamps, x.1, past)))))
    (λ h. elim (or_cases (lies_in u s) (lies_in u p) h) [
      | inl l ↦ let x = covers_is u s l in is_covers u (hull s p) (omega (arith, ints, clamps, x.0)) (omega (arith, ints, clamps, x.1))
      | inr r ↦ let x = covers_is u p r in is_covers u (hull s p) (omega (arith, ints, clamps, x.0)) (omega (arith, ints, clamps, x.1))
    ])

int_lt_both : (a b : Bool) → (a ≡ true → b ≡ true → ⊥) → (a && b) ≡ false
int_lt_both true b h = false_from_ne_true b (h refl)
int_lt_both false b h = refl

-- the part of a period in the window
common_empty : (u : ℤ) (p w : Period) → int_le (common p w).to (common p w).from ≡ true → (lies_in u w && lies_in u p) ≡ false
common_empty u p w e = int_lt_both (lies_in u w) (lies_in u p) (λ h k.
    let le = int_le_is (common p w).to (common p w).from e in
    let x = covers_is u w h in
    let y = covers_is u p k in
    omega (arith, ints, clamps, x, y, le))

common_covers : (u : ℤ) (p w : Period) → lies_in u (common p w) ≡ (lies_in u w && lies_in u p)
common_covers u p w = same_truth (lies_in u (common p w)) (lies_in u w && lies_in u p)
    (λ h. let x = covers_is u (common p w) h in
    and_from (lies_in u w) (lies_in u p)
    (is_covers u w (omega (arith, ints, clamps, x.0)) (omega (arith, ints, clamps, x.1)))
    (is_covers u p (omega (arith, ints, clamps, x.0)) (omega (arith, ints, clamps, x.1))))
    (λ h. let z = and_parts (lies_in u w) (lies_in u p) h in
    let x = covers_is u w z.0 in
    let y = covers_is u p z.1 in
    is_covers u (common p w) (omega (arith, ints, clamps, x.0, y.0)) (omega (arith, ints, clamps, x.1, y.1)))

pub marks_nothing : (p w : Period) (ps : List Period) → int_le (common p w).to (common p w).from ≡ true → (u : ℤ) → is_busy ps u ≡ (is_busy ps u || (lies_in u w && lies_in u p))
marks_nothing p w ps e = λ u. or_nothing (is_busy ps u) (lies_in u w && lies_in u p) (common_empty u p w e)

pub int_le_not : (a b : ℤ) → int_le a b ≡ false → b <ℤ a
int_le_not a b h = grind (arith, signed_arith)

-- one more span
pub marks_busy : (p w : Period) (ps : List Period) → (u : ℤ) → is_busy (ps ++ common p w ∷ []) u ≡ (is_busy ps u || (lies_in u w && lies_in u p))
marks_busy p w ps u =
    list_any-append (lies_in u) ps (common p w ∷ [])
    ∙ ap (λ b. is_busy ps u || b) (or_comm (lies_in u (common p w)) false ∙ common_covers u p w)
