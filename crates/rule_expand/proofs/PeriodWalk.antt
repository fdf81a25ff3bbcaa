-- The walk over the periods in phase.
use Rattle.std.proofs.Common.{mul-le-mul, ◌≡◌, ℕ, suc, ◌+◌, ◌-◌, ◌*◌, ◌<◌, ◌≤◌, inl, inr, sym, ap, ◌∙◌, arith, ℤ, pos, ◌+ℤ◌, ◌-ℤ◌}
use Rattle.std.proofs.lemmas.Bool.{cases_order}
use Rattle.std.proofs.lemmas.Int.{by_lt_z}
use Rattle.jiff_core.proofs.SignedLemmas.{signed_arith}
use Rattle.spec_series.specs.Periods.{period_by, period_last, period_number, period_first}
use Rattle.spec_series.specs.RuleSets.{is_kept, is_moved, is_overflow, moved_from}
use Rattle.spec_time.specs.Floor.{modulo}
use Rattle.rule_expand.specs.Walk.{periods, first_of, NoneKept, IsFirstKept, IsPhaseDay, IsNextDay, IsFirstPeriod, NoneThrough, NoneIn, IsFirstIn, IsFirstMoved, NoneGiven, IsFirstGiven, GivenBy, IsWholePeriod, period_to}
use Rattle.rule_expand.specs.Sets.{is_up_to}
use Rattle.rule_expand.specs.declared.bound.Bound.{Bound}
use Rattle.rule_expand.specs.declared.bound.Bound.TheVariants.{Endless, Last}
use Rattle.civil_days.proofs.Orders.{int_le_is}
use Rattle.rule_expand.specs.Least.{lower}
use Rattle.spec_series.specs.declared.by_part.Skip.{Skip}
use Rattle.spec_series.specs.declared.by_part.Skip.TheVariants.{Omit, Backward, Forward}
use Rattle.rule_expand.proofs.Places.{false_true}
use Rattle.rule_expand.proofs.Overflow.{moved_eq, origin_eq}
use Rattle.std.specs.Int.{int_min}
use Rattle.std.proofs.lemmas.Int.{ints, clamps}
use Rattle.std.proofs.Common.{Option, Some, None, IsNone, IfSome, ℤ, ◌<ℤ◌, ◌≤ℤ◌, ◌*ℤ◌, ◌+ℤ◌, subst, true, refl}
use Rattle.spec_series.specs.declared.rule.Rule.{Rule}
use Rattle.rule_expand.proofs.Cycle.{later, is_kept-cycle, is_moved-cycle, moved_from-cycle}
use Rattle.rule_expand.proofs.Next.{none_in_walk, period-later, steps_between, period-lt, period-mono}
use Rattle.rule_expand.proofs.Periods.{in_period_from, period_between, period-first, first_of-period, last_same}
use Rattle.rule_expand.proofs.Remainder.{modulo-steps, modulo-next, modulo-bound}
use borrow.Author.Differences.{up, down}

-- the place of a day in its period
placed : (r : Rule) (p m d : ℤ) (length : ℕ) → d ≡ first_of r.frequency r.week_start p → period_last r.frequency r.week_start d ≡ d +ℤ pos length → period_number r m ≡ p
    → (k : ℕ) × (m ≡ d +ℤ pos k) × (k < length + 1)
placed r p m d length h l e =
    let b = in_period_from r.frequency r.week_start p m d h e in
    (up m + down d - (down m + up d), omega (arith, signed_arith), omega (arith, signed_arith))

pub none_in : (r : Rule) (after p d : ℤ) (length : ℕ) → d ≡ first_of r.frequency r.week_start p
    → period_last r.frequency r.week_start d ≡ d +ℤ pos length → NoneKept r after d (length + 1) → NoneIn r (is_kept r) after p
none_in r after p d length first last none m e past kept =
    let k = placed r p m d length first last e in
    none k.0 k.2 (rw k.1 at past) (rw k.1 at kept)

pub first_in : (r : Rule) (after p d n : ℤ) (length k : ℕ) → d ≡ first_of r.frequency r.week_start p
    → period_last r.frequency r.week_start d ≡ d +ℤ pos length → IsFirstKept r after d (length + 1) k → n ≡ d +ℤ pos k → IsFirstIn r (is_kept r) after p n
first_in r after p d n length k h last found e = record {
  own = period_between r.frequency r.week_start p n d h (omega (arith, signed_arith)) (omega (arith, signed_arith, found.within));
  past = rw e found.past;
  passes = rw e found.kept;
  least = λ m own past kept.
      let x = placed r p m d length h last own in
      by_lt_z m n
      (λ lt. absurd (found.before x.0 (omega (arith, signed_arith, x.1)) (rw x.1 at past) (rw x.1 at kept)))
      (λ ge. ge);
}

-- ---- The days that a period gives.

origin_le : (s : Skip) (n : ℤ) → moved_from s n ≤ℤ n
unfolding moved_from
origin_le Omit n = omega (arith, signed_arith)
origin_le Backward n = omega (arith, signed_arith)
origin_le Forward n = omega (arith, signed_arith)

origin_from : (s : Skip) (x n : ℤ) → x <ℤ n → x ≤ℤ moved_from s n
unfolding moved_from
origin_from Omit x n h = omega (arith, signed_arith, h)
origin_from Backward x n h = omega (arith, signed_arith, h)
origin_from Forward x n h = omega (arith, signed_arith, h)

-- a cycle later a period gives the days a cycle later
given_cycle : (r : Rule) (p n q : ℤ) → GivenBy r p n → GivenBy r (p +ℤ q *ℤ pos (periods r.frequency)) (later n q)
given_cycle r p n q (inl (own, kept)) = inl (period-later r.frequency r.week_start n q ∙ ap (λ x. x +ℤ q *ℤ pos (periods r.frequency)) own, is_kept-cycle r n q ∙ kept)
given_cycle r p n q (inr (own, moved)) =
    inr (ap (period_number r) (moved_from-cycle r.skip n q) ∙ period-later r.frequency r.week_start (moved_from r.skip n) q ∙ ap (λ x. x +ℤ q *ℤ pos (periods r.frequency)) own, is_moved-cycle r n q ∙ moved)

-- the day of a period that tells that it gives a day
given_origin : (r : Rule) (p n : ℤ) → GivenBy r p n → (x : ℤ) × ((period_number r x ≡ p) × ((x ≤ℤ n) × ((y : ℤ) → y <ℤ n → y ≤ℤ x)))
given_origin r p n (inl (own, kept)) = (n, (own, (omega (arith, signed_arith), λ y h. omega (arith, signed_arith, h))))
given_origin r p n (inr (own, moved)) = (moved_from r.skip n, (own, (origin_le r.skip n, λ y h. origin_from r.skip y n h)))

given_late : (r : Rule) (p n x : ℤ) → GivenBy r p n → period_number r x <ℤ p → x <ℤ n
given_late r p n x g h =
    let o = given_origin r p n g in
    let lt = period-lt r.frequency r.week_start x o.0 (rw o.1.0 h) in
    omega (arith, signed_arith, lt, o.1.1.0)

given_from : (r : Rule) (p n x : ℤ) → GivenBy r p n → x <ℤ n → period_number r x ≤ℤ p
given_from r p n x g h =
    let o = given_origin r p n g in
    let le = period-mono r.frequency r.week_start x o.0 (o.1.1.1 x h) in
    omega (arith, signed_arith, le, o.1.0)

-- a later period gives no earlier day
given_order : (r : Rule) (p q n m : ℤ) → GivenBy r p n → GivenBy r q m → p <ℤ q → n ≤ℤ m
given_order r p q n m g h lt =
    let o = given_origin r p n g in
    let u = given_origin r q m h in
    let before = period-lt r.frequency r.week_start o.0 u.0 (omega (arith, signed_arith, o.1.0, u.1.0, lt)) in
    by_lt_z u.0 n (λ less. let le = o.1.1.1 u.0 less in absurd (omega (arith, signed_arith, le, before))) (λ ge. omega (arith, signed_arith, ge, u.1.1.0))

-- one period more
pub walk_more : (r : Rule) (after p : ℤ) (j : ℕ) → NoneThrough r after p j → NoneGiven r after (p +ℤ pos (j * r.interval)) → NoneThrough r after p (j + 1)
walk_more r after p j old none t m lt g past =
    elim (cases_order t j) [
      | inr (inl below) ↦ old t m below g past
      | inl same ↦ none m (subst (λ (x : ℕ). GivenBy r (p +ℤ pos (x * r.interval)) m) same g) past
      | inr (inr above) ↦ absurd (omega arith)
    ]

-- the steps from the first period to the one that gives a day in phase
steps : (r : Rule) (start after p m : ℤ) → IsFirstPeriod r start after p → (day : IsPhaseDay r start after m) → (t : ℕ) × (day.number ≡ p +ℤ pos (t * r.interval))
steps r start after p m first day =
    let later = given_from r day.number m after day.given day.past in
    steps_between r.interval p day.number r.interval_in.0 (day.phase ∙ sym first.same) (omega (arith, signed_arith, first.near, later))

-- no day, where the first periods of one cycle give none
pub walk_none : (r : Rule) (start after p : ℤ) → IsFirstPeriod r start after p → NoneThrough r after p (periods r.frequency + 1)
    → (m : ℤ) → IsPhaseDay r start after m → ⊥
walk_none r start after p first none m day =
    let s = steps r start after p m first day in
    none_in_walk r.frequency r.week_start r.interval (GivenBy r) (given_cycle r) (given_late r) after p r.interval_in.0 first.from
    (λ j small n g past. none j n (omega arith) g past) s.0 m (subst (λ (x : ℤ). GivenBy r x m) s.1 day.given) day.past

le_same : (i : ℕ) → i ≤ i
le_same i = omega arith

more_steps : (j t i : ℕ) → j < t → j * i + i ≤ t * i
more_steps j t i h = let a : suc j * i ≤ t * i = mul-le-mul h (le_same i) in omega (arith, a)

-- the day that the walk finds
pub walk_found : (r : Rule) (start after p n : ℤ) (j : ℕ) → IsFirstPeriod r start after p → NoneThrough r after p j
    → IsFirstGiven r after (p +ℤ pos (j * r.interval)) n → IsNextDay r start after n
walk_found r start after p n j first none found =
    let q = p +ℤ pos (j * r.interval) in
    record {
      here = record {
        past = found.past;
        number = q;
        given = found.given;
        phase = modulo-steps r.interval j p q r.interval_in.0 refl ∙ first.same;
      };
      least = λ m day.
          let s = steps r start after p m first day in
          elim (cases_order s.0 j) [
            | inr (inl below) ↦ absurd (none s.0 m below (subst (λ (x : ℤ). GivenBy r x m) s.1 day.given) day.past)
            | inl same ↦ found.least m (subst (λ (x : ℕ). GivenBy r (p +ℤ pos (x * r.interval)) m) same (subst (λ (x : ℤ). GivenBy r x m) s.1 day.given)) day.past
            | inr (inr above) ↦
                let big : j * r.interval + r.interval ≤ s.0 * r.interval = more_steps j s.0 r.interval above in
                given_order r q day.number n m found.given day.given (omega (arith, signed_arith, s.1, big, r.interval_in.0))
          ];
    }

-- no day up to a bound, where the periods before this one give none and it begins past the bound
pub walk_past : (r : Rule) (start after p : ℤ) (j : ℕ) (bound : Bound) → IsFirstPeriod r start after p → NoneThrough r after p j → (p +ℤ pos (j * r.interval)) ≤ℤ pos 9223372036854775807
    → period_to r bound <ℤ (p +ℤ pos (j * r.interval)) → (m : ℤ) → IsPhaseDay r start after m → is_up_to bound m ≡ true → ⊥
walk_past r start after p j Endless first none fits over m day by = omega (arith, signed_arith, fits, over)
walk_past r start after p j (Last last) first none fits over m day by =
    let s = steps r start after p m first day in
    let late : (p +ℤ pos (j * r.interval)) ≤ℤ day.number → ⊥ = λ le.
    let lt = given_late r day.number m last day.given (omega (arith, signed_arith, over, le)) in
    let up_to = int_le_is m last by in
    absurd (omega (arith, signed_arith, lt, up_to)) in
    elim (cases_order s.0 j) [
      | inr (inl below) ↦ none s.0 m below (subst (λ (x : ℤ). GivenBy r x m) s.1 day.given) day.past
      | inl same ↦ late (let e : day.number ≡ p +ℤ pos (j * r.interval) = s.1 ∙ ap (λ (x : ℕ). p +ℤ pos (x * r.interval)) same in omega (arith, signed_arith, e))
      | inr (inr above) ↦ late (let big : j * r.interval + r.interval ≤ s.0 * r.interval = more_steps j s.0 r.interval above in omega (arith, signed_arith, s.1, big))
    ]

-- ---- Of both kinds of days the earlier.

-- a day to which a rule moves, from the last day of a month that overflows
moved_of : (r : Rule) (after p x : ℤ) → r.skip ≡ Backward → IsFirstIn r (is_overflow r) after p x → IsFirstMoved r after p x
unfolding moved_from
moved_of r after p x e h = record {
  own = ap (period_number r) (origin_eq r Backward x e) ∙ h.own;
  past = h.past;
  moved = moved_eq r Backward x e ∙ h.passes;
  least = λ m own past moved. h.least m (ap (period_number r) (sym (origin_eq r Backward m e)) ∙ own) past (sym (moved_eq r Backward m e) ∙ moved);
}

pub moved_back_some : (r : Rule) (after p : ℤ) (o : Option ℤ) → r.skip ≡ Backward → IfSome o (IsFirstIn r (is_overflow r) after p) → IfSome o (IsFirstMoved r after p)
moved_back_some r after p None e h = tt
moved_back_some r after p (Some x) e h = moved_of r after p x e h

pub moved_back_none : (r : Rule) (after p : ℤ) → r.skip ≡ Backward → NoneIn r (is_overflow r) after p → (m : ℤ) → period_number r (moved_from r.skip m) ≡ p → after <ℤ m → is_moved r m ≡ true → ⊥
unfolding moved_from
moved_back_none r after p e none m own past moved = none m (ap (period_number r) (sym (origin_eq r Backward m e)) ∙ own) past (sym (moved_eq r Backward m e) ∙ moved)

pub moved_forward_some : (r : Rule) (after p x n : ℤ) → r.skip ≡ Forward → n ≡ x +ℤ pos 1 → IsFirstIn r (is_overflow r) (after -ℤ pos 1) p x → IsFirstMoved r after p n
unfolding moved_from
moved_forward_some r after p x n e at h =
    let back : n -ℤ pos 1 ≡ x = omega (arith, signed_arith, at) in
    record {
      own = ap (period_number r) (origin_eq r Forward n e ∙ back) ∙ h.own;
      past = omega (arith, signed_arith, h.past, at);
      moved = moved_eq r Forward n e ∙ ap (is_overflow r) back ∙ h.passes;
      least = λ m own past moved.
          let le = h.least (m -ℤ pos 1) (ap (period_number r) (sym (origin_eq r Forward m e)) ∙ own) (omega (arith, signed_arith, past)) (sym (moved_eq r Forward m e) ∙ moved) in
          omega (arith, signed_arith, le, at);
    }

pub moved_forward_none : (r : Rule) (after p : ℤ) → r.skip ≡ Forward → NoneIn r (is_overflow r) (after -ℤ pos 1) p → (m : ℤ) → period_number r (moved_from r.skip m) ≡ p → after <ℤ m → is_moved r m ≡ true → ⊥
unfolding moved_from
moved_forward_none r after p e none m own past moved = none (m -ℤ pos 1) (ap (period_number r) (sym (origin_eq r Forward m e)) ∙ own) (omega (arith, signed_arith, past)) (sym (moved_eq r Forward m e) ∙ moved)

pub moved_omit : (r : Rule) (m : ℤ) → r.skip ≡ Omit → is_moved r m ≡ true → ⊥
moved_omit r m e h = absurd (false_true (sym (moved_eq r Omit m e) ∙ h))

-- no day of the one kind, and no day of the other
abbrev pub NoneMoved : Rule → ℤ → ℤ → Type 0
NoneMoved r after p = (m : ℤ) → period_number r (moved_from r.skip m) ≡ p → after <ℤ m → is_moved r m ≡ true → ⊥

first_of_both : (r : Rule) (after p : ℤ) (a b : Option ℤ) → (IsNone a → NoneIn r (is_kept r) after p) → IfSome a (IsFirstIn r (is_kept r) after p)
    → (IsNone b → NoneMoved r after p) → IfSome b (IsFirstMoved r after p)
    → (IsNone (lower a b) → NoneGiven r after p) × IfSome (lower a b) (IsFirstGiven r after p)
first_of_both r after p None None ka ha kb hb = (λ t m g past. elim g [ inl x ↦ ka refl m x.0 past x.1 | inr y ↦ kb refl m y.0 past y.1 ], tt)
first_of_both r after p None (Some y) ka ha kb hb = (
  λ t. absurd (cc t),
  record {
    given = inr (hb.own, hb.moved);
    past = hb.past;
    least = λ m g past. elim g [ inl x ↦ absurd (ka refl m x.0 past x.1) | inr z ↦ hb.least m z.0 past z.1 ];
  },
)
first_of_both r after p (Some x) None ka ha kb hb = (
  λ t. absurd (cc t),
  record {
    given = inl (ha.own, ha.passes);
    past = ha.past;
    least = λ m g past. elim g [ inl z ↦ ha.least m z.0 past z.1 | inr y ↦ absurd (kb refl m y.0 past y.1) ];
  },
)
first_of_both r after p (Some x) (Some y) ka ha kb hb = (
  λ t. absurd (cc t),
  by_lt_z x y
      (λ below. let e : int_min x y ≡ x = omega (arith, ints, clamps) in
      rw e (record {
        given = inl (ha.own, ha.passes);
        past = ha.past;
        least = λ m g past. elim g [ inl z ↦ ha.least m z.0 past z.1 | inr z ↦ let le = hb.least m z.0 past z.1 in omega (arith, signed_arith, le, below) ];
      }))
      (λ above. let e : int_min x y ≡ y = omega (arith, ints, clamps) in
      rw e (record {
        given = inr (hb.own, hb.moved);
        past = hb.past;
        least = λ m g past. elim g [ inl z ↦ let le = ha.least m z.0 past z.1 in omega (arith, signed_arith, le, above) | inr z ↦ hb.least m z.0 past z.1 ];
      })),
)

pub both_none : (r : Rule) (after p : ℤ) (a b : Option ℤ) → (IsNone a → NoneIn r (is_kept r) after p) → IfSome a (IsFirstIn r (is_kept r) after p)
    → (IsNone b → NoneMoved r after p) → IfSome b (IsFirstMoved r after p) → IsNone (lower a b) → NoneGiven r after p
both_none r after p a b ka ha kb hb = (first_of_both r after p a b ka ha kb hb).0

pub both_some : (r : Rule) (after p : ℤ) (a b : Option ℤ) → (IsNone a → NoneIn r (is_kept r) after p) → IfSome a (IsFirstIn r (is_kept r) after p)
    → (IsNone b → NoneMoved r after p) → IfSome b (IsFirstMoved r after p) → IfSome (lower a b) (IsFirstGiven r after p)
both_some r after p a b ka ha kb hb = (first_of_both r after p a b ka ha kb hb).1

-- what the code computes is that first period
pub first_is : (r : Rule) (start after p : ℤ) → p ≡ period_number r after +ℤ pos (modulo (period_number r start -ℤ period_number r after) r.interval) → IsFirstPeriod r start after p
first_is r start after p e =
    let small = modulo-bound r.interval (period_number r start -ℤ period_number r after) r.interval_in.0 in
    record {
      same = modulo-next r.interval (period_number r after) (period_number r start) p r.interval_in.0 e;
      from = omega (arith, signed_arith);
      near = omega (arith, signed_arith);
    }

-- from a period's first day on, as many days as it has are the whole period
pub whole_period : (r : Rule) (p d : ℤ) (length : ℕ) → d ≡ first_of r.frequency r.week_start p → period_last r.frequency r.week_start d ≡ d +ℤ pos length → IsWholePeriod r d (length + 1)
whole_period r p d length h l k small =
    let n = d +ℤ pos k in
    let own : period_by r.frequency r.week_start n ≡ p = period_between r.frequency r.week_start p n d h (omega (arith, signed_arith)) (omega (arith, signed_arith)) in
    let here : period_by r.frequency r.week_start d ≡ p = ap (period_by r.frequency r.week_start) h ∙ period-first r.frequency r.week_start p in
    let first : period_first r.frequency r.week_start n ≡ d = sym (first_of-period r.frequency r.week_start n) ∙ ap (first_of r.frequency r.week_start) own ∙ sym h in
    let last : period_last r.frequency r.week_start n ≡ period_last r.frequency r.week_start d = last_same r.frequency r.week_start n d (own ∙ sym here) in
    (first, rw (last, l) (omega (arith, signed_arith)))
