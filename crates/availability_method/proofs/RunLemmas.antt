-- The runs of a test in a window.
use Rattle.std.proofs.Common.{◌&&◌, ◌||◌, ◌≡◌, ◌⊎◌, ℕ, zero, suc, inl, inr, Bool, true, false, not, refl, sym, ◌∙◌, arith, ℤ, pos, ◌≤ℤ◌, ◌<ℤ◌, ◌+ℤ◌, ◌-ℤ◌, negsuc, int_lt, int_le, List, [], ◌∷◌, Some}
use Rattle.std.specs.Prelude.{filter, find, map, slice_get, unsigned_abs, unwrap_or}
use Rattle.std.specs.Ordering.{int_eq}
use Rattle.std.proofs.lemmas.Bool.Decides.{Decides-int_eq}
use Rattle.std.proofs.lemmas.Int.{by_lt_z, ints}
use Rattle.std.proofs.lemmas.Bool.{not-false, not-true, not_from_false}
use Rattle.jiff_core.proofs.SignedLemmas.{signed_arith}
use Rattle.jiff_core.specs.Calendar.{IsWithin}
use Rattle.availability.proofs.Determined.{determined}
use Rattle.availability.proofs.Runs.{run_of}
use Rattle.availability_method.specs.Periods.{AreInYears, IsInYears}
use Rattle.spec_availability.specs.Runs.{begins_run, run_at, run_end, runs_in}
use Rattle.spec_events.specs.Values.{is_showing}
use Rattle.spec_json.proofs.Booleans.{by_bool}
use Rattle.spec_series.specs.Numbers.{numbers_from}
use Rattle.spec_time.specs.Walls.{is_in_years}
use Rattle.spec_windows.specs.declared.period.Period.{Period}
use Rattle.spec_windows.specs.BusyPeriods.{are_runs, lies_in, is_busy}
use Rattle.rule_expand.proofs.Places.{and_both, is_late, late_is}
use Rattle.rule_expand.proofs.Sets.{both_and, int_le_is, is_int_le, or_cases, or_left, or_right, same_truth}

-- from one instant up to a later one
reach : (a b : ℤ) → a ≤ℤ b → b ≡ a +ℤ pos (unsigned_abs (b -ℤ a))
reach a b h = omega (arith, ints, h)

-- The end of a run.

-- all from u up to e pass, and at e the test fails or the window is over
record IsEnd (p : ℤ → Bool) (high u e : ℤ) : Type 0 where
  behind : u ≤ℤ e
  within : e ≤ℤ high
  all : (x : ℤ) → u ≤ℤ x → x <ℤ e → p x ≡ true
  over : (e ≡ high) ⊎ (p e ≡ false)

abbrev end_from : (ℤ → Bool) → ℤ → ℤ → ℕ → ℤ
end_from p high u n = unwrap_or (find (λ v. not (p v)) (numbers_from u n)) high

end_is : (p : ℤ → Bool) (high u : ℤ) (n : ℕ) → high ≡ u +ℤ pos n → IsEnd p high u (end_from p high u n)
unfolding numbers_from
end_is p high u zero e = record { behind = omega (arith, signed_arith); within = omega (arith, signed_arith); all = λ x a b. absurd (omega (arith, signed_arith)); over = inl refl }
end_is p high u (suc n) e = by_bool (not (p u))
    (λ t. rw t (record { behind = omega (arith, signed_arith); within = omega (arith, signed_arith); all = λ x a b. absurd (omega (arith, signed_arith)); over = inr (not-true (p u) t) }))
    (λ f. rw f (let r = end_is p high (u +ℤ pos 1) n (omega (arith, signed_arith)) in
    record {
      behind = omega (arith, signed_arith, r.behind);
      within = r.within;
      all = λ x a b. by_lt_z u x
          (λ lt. r.all x (omega (arith, signed_arith, lt)) b)
          (λ ge. let same : x ≡ u = omega (arith, signed_arith, a, ge) in rw same (not-false (p u) f));
      over = r.over;
    }))

module _ (p : ℤ → Bool) (w : Period) where
  end_of : (u : ℤ) → u ≤ℤ w.to → IsEnd p w.to u (run_end p w u)
  end_of u h = end_is p w.to u (unsigned_abs (w.to -ℤ u)) (reach u w.to h)

  begun : (u : ℤ) → begins_run p w u ≡ true → p u ≡ true
  begun u h = (and_both (p u) _ h).0

  begun_behind : (u : ℤ) → w.from <ℤ u → begins_run p w u ≡ true → p (u -ℤ pos 1) ≡ false
  begun_behind u lt h = elim (or_cases (int_eq u w.from) _ (and_both (p u) _ h).1) [
    | inl same ↦ let e = (Decides-int_eq u w.from).0 same in absurd (omega (arith, signed_arith, e, lt))
    | inr fails ↦ not-true (p (u -ℤ pos 1)) fails
  ]

  -- a run isn't empty
  end_late : (u : ℤ) → u <ℤ w.to → begins_run p w u ≡ true → u <ℤ run_end p w u
  end_late u lt h =
      let e = end_of u (omega (arith, signed_arith, lt)) in
      by_lt_z u (run_end p w u) (λ x. x)
      (λ ge. let same : run_end p w u ≡ u = omega (arith, signed_arith, ge, e.behind) in
      elim e.over [
        | inl top ↦ absurd (omega (arith, signed_arith, top, same, lt))
        | inr fails ↦ let passes = begun u h in let fails_here = rw same at fails in absurd (cc)
      ])

  -- the runs that begin among so many instants
  abbrev from_here : ℤ → ℕ → List Period
  from_here u k = map (run_at p w) (filter (begins_run p w) (numbers_from u k))

  here_some : (u : ℤ) (k : ℕ) → begins_run p w u ≡ true → from_here u (suc k) ≡ run_at p w u ∷ from_here (u +ℤ pos 1) k
  unfolding numbers_from
  here_some u k h = rw h refl

  here_none : (u : ℤ) (k : ℕ) → begins_run p w u ≡ false → from_here u (suc k) ≡ from_here (u +ℤ pos 1) k
  unfolding numbers_from
  here_none u k h = rw h refl

  here_no_more : (u : ℤ) → from_here u zero ≡ []
  unfolding numbers_from
  here_no_more u = refl

  run_first : (low : ℤ) (q : Period) (qs : List Period) → low <ℤ q.from → q.from <ℤ q.to → q.to ≤ℤ w.to → are_runs q.to w.to qs ≡ true → are_runs low w.to (q ∷ qs) ≡ true
  unfolding are_runs
  run_first low q qs a b c d =
      both_and (int_lt low q.from) _ (is_late low q.from a) (both_and (int_lt q.from q.to) _ (is_late q.from q.to b) (both_and (int_le q.to w.to) _ (is_int_le q.to w.to c) d))

  no_run : (low : ℤ) → are_runs low w.to [] ≡ true
  unfolding are_runs
  no_run low = refl

  -- they are runs, behind what lies before the first of them
  runs_from : (low u : ℤ) (k : ℕ) → w.from ≤ℤ u → w.to ≡ u +ℤ pos k → ((v : ℤ) → u ≤ℤ v → begins_run p w v ≡ true → low <ℤ v) → are_runs low w.to (from_here u k) ≡ true
  runs_from low u zero a b h = rw here_no_more (no_run low)
  runs_from low u (suc k) a b h =
      let next : w.to ≡ (u +ℤ pos 1) +ℤ pos k = omega (arith, signed_arith, b) in
      let lt : u <ℤ w.to = omega (arith, signed_arith, b) in
      by_bool (begins_run p w u)
      (λ t. rw (here_some u k t)
      (let e = end_of u (omega (arith, signed_arith, lt)) in
      run_first low (run_at p w u) _ (h u (omega (arith, signed_arith)) t) (end_late u lt t) e.within
      (runs_from (run_end p w u) (u +ℤ pos 1) k (omega (arith, signed_arith, a)) next (λ v at is.
      by_lt_z (run_end p w u) v (λ x. x)
      (λ ge. let no = begun_behind v (omega (arith, signed_arith, a, at)) is in
      let yes = e.all (v -ℤ pos 1) (omega (arith, signed_arith, at)) (omega (arith, signed_arith, ge)) in absurd (cc))))))
      (λ f. rw (here_none u k f) (runs_from low (u +ℤ pos 1) k (omega (arith, signed_arith, a)) next (λ v at is. h v (omega (arith, signed_arith, at)) is)))

  covered_later : (u x : ℤ) → ((u +ℤ pos 1) ≤ℤ x) × ((x <ℤ w.to) × (p x ≡ true)) → (u ≤ℤ x) × ((x <ℤ w.to) × (p x ≡ true))
  covered_later u x r = (omega (arith, signed_arith, r.0), r.1)

  -- what they cover passes
  covered_pass : (u : ℤ) (k : ℕ) (x : ℤ) → w.to ≡ u +ℤ pos k → is_busy (from_here u k) x ≡ true → (u ≤ℤ x) × ((x <ℤ w.to) × (p x ≡ true))
  covered_pass u zero x b h = let none = rw here_no_more at h in absurd (cc)
  covered_pass u (suc k) x b h =
      let next : w.to ≡ (u +ℤ pos 1) +ℤ pos k = omega (arith, signed_arith, b) in
      by_bool (begins_run p w u)
      (λ t. elim (or_cases (lies_in x (run_at p w u)) _ (rw (here_some u k t) at h)) [
        | inl here ↦
            let e = end_of u (omega (arith, signed_arith, b)) in
            let y = and_both (int_le u x) _ here in
            let low = int_le_is u x y.0 in
            let up = late_is x (run_end p w u) y.1 in
            (low, (omega (arith, signed_arith, up, e.within), e.all x low up))
        | inr rest ↦ covered_later u x (covered_pass (u +ℤ pos 1) k x next rest)
      ])
      (λ f. covered_later u x (covered_pass (u +ℤ pos 1) k x next (rw (here_none u k f) at h)))

  -- a run that begins among them covers its instants
  run_covers : (u : ℤ) (k : ℕ) (s x : ℤ) → w.to ≡ u +ℤ pos k → u ≤ℤ s → s <ℤ w.to → begins_run p w s ≡ true → s ≤ℤ x → x <ℤ run_end p w s → is_busy (from_here u k) x ≡ true
  run_covers u zero s x b low high is at up = absurd (omega (arith, signed_arith, b, low, high))
  run_covers u (suc k) s x b low high is at up =
      let next : w.to ≡ (u +ℤ pos 1) +ℤ pos k = omega (arith, signed_arith, b) in
      by_lt_z u s
      (λ lt. let rest = run_covers (u +ℤ pos 1) k s x next (omega (arith, signed_arith, lt)) high is at up in
      by_bool (begins_run p w u)
      (λ t. rw (here_some u k t) (or_right (lies_in x (run_at p w u)) _ rest))
      (λ f. rw (here_none u k f) rest))
      (λ ge. let same : s ≡ u = omega (arith, signed_arith, low, ge) in
      let t = rw same at is in
      rw (here_some u k t) (or_left (lies_in x (run_at p w u)) _
      (both_and (int_le u x) _ (is_int_le u x (omega (arith, signed_arith, at, same))) (is_late x (run_end p w u) (rw same at up)))))

  -- where the run of an instant begins
  record IsStart (x s : ℤ) : Type 0 where
    first : w.from ≤ℤ s
    by : s ≤ℤ x
    is : begins_run p w s ≡ true
    all : (y : ℤ) → s ≤ℤ y → y ≤ℤ x → p y ≡ true

  starts_here : (x : ℤ) → w.from ≤ℤ x → p x ≡ true → (int_eq x w.from || not (p (x -ℤ pos 1))) ≡ true → IsStart x x
  starts_here x low h b = record { first = low; by = omega (arith, signed_arith); is = both_and (p x) _ h b; all = λ y a c. let same : y ≡ x = omega (arith, signed_arith, a, c) in rw same h }

  start_of : (n : ℕ) (x : ℤ) → x ≡ w.from +ℤ pos n → p x ≡ true → (s : ℤ) × IsStart x s
  start_of zero x e h = (x, starts_here x (omega (arith, signed_arith, e)) h (or_left (int_eq x w.from) _ ((Decides-int_eq x w.from).1 (omega (arith, signed_arith, e)))))
  start_of (suc n) x e h = by_bool (p (x -ℤ pos 1))
      (λ t. let r = start_of n (x -ℤ pos 1) (omega (arith, signed_arith, e)) t in (
        r.0,
        record {
          first = r.1.first;
          by = omega (arith, signed_arith, r.1.by);
          is = r.1.is;
          all = λ y a c. by_lt_z y x (λ lt. r.1.all y a (omega (arith, signed_arith, lt))) (λ ge. let same : y ≡ x = omega (arith, signed_arith, c, ge) in rw same h);
        },
      ))
      (λ f. (x, starts_here x (omega (arith, signed_arith, e)) h (or_right (int_eq x w.from) _ (not_from_false (p (x -ℤ pos 1)) f))))

  -- which covers it
  start_covers : (x s : ℤ) → IsStart x s → x <ℤ w.to → x <ℤ run_end p w s
  start_covers x s r up =
      let e = end_of s (omega (arith, signed_arith, r.by, up)) in
      by_lt_z x (run_end p w s) (λ lt. lt)
      (λ ge. elim e.over [
        | inl top ↦ absurd (omega (arith, signed_arith, top, ge, up))
        | inr fails ↦ let yes = r.all (run_end p w s) e.behind ge in absurd (cc)
      ])

  pass_covered : (k : ℕ) (x : ℤ) → w.to ≡ w.from +ℤ pos k → w.from ≤ℤ x → x <ℤ w.to → p x ≡ true → is_busy (from_here w.from k) x ≡ true
  pass_covered k x b low up h =
      let r = start_of (unsigned_abs (x -ℤ w.from)) x (reach w.from x low) h in
      run_covers w.from k r.0 x b r.1.first (omega (arith, signed_arith, r.1.by, up)) r.1.is r.1.by (start_covers x r.0 r.1 up)

pub are_runs_in : (p : ℤ → Bool) (w : Period) → w.from ≤ℤ w.to → are_runs (w.from -ℤ pos 1) w.to (runs_in p w) ≡ true
unfolding runs_in
are_runs_in p w le = runs_from p w (w.from -ℤ pos 1) w.from (unsigned_abs (w.to -ℤ w.from)) (omega (arith, signed_arith)) (reach w.from w.to le) (λ v at is. omega (arith, signed_arith, at))

pub runs_in_cover : (p : ℤ → Bool) (w : Period) → w.from ≤ℤ w.to → (u : ℤ) → is_busy (runs_in p w) u ≡ (lies_in u w && p u)
unfolding runs_in
runs_in_cover p w le u =
    let k = unsigned_abs (w.to -ℤ w.from) in
    let b : w.to ≡ w.from +ℤ pos k = reach w.from w.to le in
    same_truth (is_busy (map (run_at p w) (filter (begins_run p w) (numbers_from w.from k))) u) (lies_in u w && p u)
    (λ h. let r = covered_pass p w w.from k u b h in both_and (lies_in u w) (p u) (both_and (int_le w.from u) _ (is_int_le w.from u r.0) (is_late u w.to r.1.0)) r.1.1)
    (λ h. let r = and_both (lies_in u w) (p u) h in let l = and_both (int_le w.from u) _ r.0 in
    pass_covered p w k u b (int_le_is w.from u l.0) (late_is u w.to l.1) r.1)

-- the end of a period that lies between two instants of the years
in_years : (u : ℤ) → (pos 0 -ℤ pos 62135596801) ≤ℤ u → u ≤ℤ pos 253370764799 → is_in_years u ≡ true
in_years u low high = both_and _ _ (is_int_le (negsuc 62167219199) u (omega (arith, signed_arith, low))) (is_int_le u (pos 253402300799) (omega (arith, signed_arith, high)))

-- runs in the years 1 to 9998 lie in the years
runs_in_years : (low high : ℤ) (ps : List Period) → (pos 0 -ℤ pos 62135596801) ≤ℤ low → high ≤ℤ pos 253370764799 → are_runs low high ps ≡ true → AreInYears ps
runs_in_years low high [] a b h = λ k p e. absurd (cc)
runs_in_years low high (q ∷ qs) a b h =
    let r = run_of low high q qs h in
    λ k p e. elim k as (λ n. slice_get (q ∷ qs) n ≡ Some p → IsInYears p) [
      | zero ↦ λ f. let same : q ≡ p = cc in rw (← same) (record { from = in_years q.from (omega (arith, signed_arith, a, r.after)) (omega (arith, signed_arith, b, r.full, r.within)); to = in_years q.to (omega (arith, signed_arith, a, r.after, r.full)) (omega (arith, signed_arith, b, r.within)) })
      | suc n ↦ λ f. runs_in_years q.to high qs (omega (arith, signed_arith, a, r.after, r.full)) b r.rest n p f
    ] e

showing_from : (u : ℤ) → is_showing u ≡ true → (negsuc 62135596799 ≤ℤ u) × (u ≤ℤ pos 253370764799)
showing_from u h = let x = and_both _ _ h in (int_le_is _ u x.0, int_le_is u _ x.1)

-- a window of these years
pub busy_in_years : (w : Period) (ps : List Period) → is_showing w.from ≡ true → is_showing w.to ≡ true → are_runs (w.from -ℤ pos 1) w.to ps ≡ true → AreInYears ps
busy_in_years w ps f t h =
    let a = (showing_from w.from f).0 in
    let b = (showing_from w.to t).1 in
    runs_in_years (w.from -ℤ pos 1) w.to ps (omega (arith, signed_arith, a)) b h

pub window_near : (w : Period) → is_showing w.from ≡ true → is_showing w.to ≡ true → IsWithin 300000000000 w.from × IsWithin 300000000000 w.to
window_near w f t =
    let a = showing_from w.from f in
    let b = showing_from w.to t in
    (omega (arith, signed_arith, a), omega (arith, signed_arith, b))

-- the runs of a window that cover just its instants that pass are those of the test
pub runs_are : (p : ℤ → Bool) (w : Period) (ps : List Period) → w.from <ℤ w.to → are_runs (w.from -ℤ pos 1) w.to ps ≡ true → ((u : ℤ) → is_busy ps u ≡ (lies_in u w && p u)) → ps ≡ runs_in p w
runs_are p w ps lt r same =
    let le : w.from ≤ℤ w.to = omega (arith, signed_arith, lt) in
    determined (w.from -ℤ pos 1) w.to ps (runs_in p w) r (are_runs_in p w le) (λ u. same u ∙ sym (runs_in_cover p w le u))
