-- Runs are determined by the instants that they cover.
use Rattle.std.proofs.Common.{◌≡◌, inl, inr, true, refl, sym, ◌∙◌, subst, arith, ℤ, ◌≤ℤ◌, ◌<ℤ◌, List, [], ◌∷◌}
use Rattle.std.proofs.lemmas.Int.{by_lt_z}
use Rattle.std.proofs.lemmas.Bool.{or_left, or_right, or_cases}
use Rattle.jiff_core.proofs.SignedLemmas.{signed_arith}
use Rattle.availability.proofs.Runs.{covers_is, is_covers, run_of}
use Rattle.spec_windows.specs.declared.period.Period.{Period}
use Rattle.spec_windows.specs.BusyPeriods.{are_runs, lies_in, is_busy}
use Rattle.spec_json.proofs.Booleans.{same_truth}

busy_late : (low high u : ℤ) (ps : List Period) → are_runs low high ps ≡ true → is_busy ps u ≡ true → low <ℤ u
busy_late low high u [] r h = cc
busy_late low high u (p ∷ ps) r h =
    let x = run_of low high p ps r in
    elim (or_cases (lies_in u p) (is_busy ps u) h) [
      | inl here ↦ let y = covers_is u p here in omega (arith, signed_arith, x.after, y.0)
      | inr rest ↦ let y = busy_late p.to high u ps x.rest rest in omega (arith, signed_arith, x.after, x.full, y)
    ]

-- the first instant of the first period is the first that is busy
begins : (low high : ℤ) (p : Period) (ps : List Period) → are_runs low high (p ∷ ps) ≡ true → is_busy (p ∷ ps) p.from ≡ true
begins low high p ps r = let x = run_of low high p ps r in or_left (lies_in p.from p) _ (is_covers p.from p (omega (arith, signed_arith)) x.full)

none_before : (low high u : ℤ) (p : Period) (ps : List Period) → are_runs low high (p ∷ ps) ≡ true → is_busy (p ∷ ps) u ≡ true → p.from ≤ℤ u
none_before low high u p ps r h =
    let x = run_of low high p ps r in
    elim (or_cases (lies_in u p) (is_busy ps u) h) [
      | inl here ↦ (covers_is u p here).0
      | inr rest ↦ let y = busy_late p.to high u ps x.rest rest in omega (arith, signed_arith, x.full, y)
    ]

-- its end is the first behind it that isn't
ended : (low high : ℤ) (p : Period) (ps : List Period) → are_runs low high (p ∷ ps) ≡ true → is_busy (p ∷ ps) p.to ≡ true → ⊥
ended low high p ps r h =
    let x = run_of low high p ps r in
    elim (or_cases (lies_in p.to p) (is_busy ps p.to) h) [
      | inl here ↦ let y = covers_is p.to p here in omega (arith, signed_arith, y.1)
      | inr rest ↦ let y = busy_late p.to high p.to ps x.rest rest in omega (arith, signed_arith, y)
    ]

ends_by : (low high : ℤ) (p q : Period) (ps qs : List Period) → are_runs low high (p ∷ ps) ≡ true → p.from ≡ q.from → is_busy (p ∷ ps) p.to ≡ is_busy (q ∷ qs) p.to → q.to ≤ℤ p.to
ends_by low high p q ps qs r e same =
    let x = run_of low high p ps r in
    by_lt_z p.to q.to
    (λ lt. absurd (ended low high p ps r (same ∙ or_left (lies_in p.to q) _ (is_covers p.to q (omega (arith, signed_arith, x.full, e)) lt))))
    (λ le. le)

rest_busy : (low high u : ℤ) (p q : Period) (ps qs : List Period) → are_runs low high (p ∷ ps) ≡ true → p.to ≡ q.to → is_busy (p ∷ ps) u ≡ is_busy (q ∷ qs) u → is_busy ps u ≡ true → is_busy qs u ≡ true
rest_busy low high u p q ps qs r f same h =
    let x = run_of low high p ps r in
    let late = busy_late p.to high u ps x.rest h in
    elim (or_cases (lies_in u q) (is_busy qs u) (sym same ∙ or_right (lies_in u p) _ h)) [
      | inl here ↦ let y = covers_is u q here in absurd (omega (arith, signed_arith, late, y.1, f))
      | inr rest ↦ rest
    ]

pub determined : (low high : ℤ) (ps qs : List Period) → are_runs low high ps ≡ true → are_runs low high qs ≡ true → ((u : ℤ) → is_busy ps u ≡ is_busy qs u) → ps ≡ qs
determined low high [] [] r s same = refl
determined low high [] (q ∷ qs) r s same = let x = same q.from in let y = begins low high q qs s in cc
determined low high (p ∷ ps) [] r s same = let x = same p.from in let y = begins low high p ps r in cc
determined low high (p ∷ ps) (q ∷ qs) r s same =
    let a = none_before low high p.from q qs s (sym (same p.from) ∙ begins low high p ps r) in
    let b = none_before low high q.from p ps r (same q.from ∙ begins low high q qs s) in
    let e : p.from ≡ q.from = omega (arith, signed_arith, a, b) in
    let c = ends_by low high p q ps qs r e (same p.to) in
    let d = ends_by low high q p qs ps s (sym e) (sym (same q.to)) in
    let f : p.to ≡ q.to = omega (arith, signed_arith, c, d) in
    let x = run_of low high p ps r in
    let y = run_of low high q qs s in
    let tail : ps ≡ qs = determined p.to high ps qs x.rest (subst (λ (z : ℤ). are_runs z high qs ≡ true) (sym f) y.rest) (λ u.
    same_truth (is_busy ps u) (is_busy qs u) (rest_busy low high u p q ps qs r f (same u)) (rest_busy low high u q p qs ps s (sym f) (sym (same u)))) in
    λ i. record { from = e i; to = f i } ∷ tail i
