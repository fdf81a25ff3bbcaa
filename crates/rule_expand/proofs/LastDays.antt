-- The last day of a set, as the walks over its due days find it.
use Rattle.std.proofs.Common.{◌≡◌, ℕ, ◌+◌, ◌-◌, ◌<◌, ◌≤◌, ◌⊎◌, inl, inr, Bool, true, false, refl, sym, ap, ◌∙◌, arith, ℤ, pos, ◌+ℤ◌, ◌-ℤ◌, ◌*ℤ◌, ◌<ℤ◌, ◌≤ℤ◌, int_le}
use Rattle.std.proofs.lemmas.Bool.Decides.{nat_tests}
use Rattle.std.proofs.lemmas.Int.{by_lt_z}
use Rattle.jiff_core.proofs.SignedLemmas.{signed_arith}
use Rattle.spec_series.specs.Places.{count_days, count_from}
use Rattle.spec_series.specs.RuleSets.{is_in_set, is_due, is_counted, is_day_of_set}
use Rattle.spec_time.specs.Walls.{day_of_wall, second_of_wall}
use Rattle.spec_time.specs.Floor.{floor_div}
use Rattle.rule_expand.specs.Sets.{is_up_to, IsNext, IsBound, IsGreatest, IsLastDue, IsCountAt}
use Rattle.spec_series.specs.declared.rule.Rule.{Rule}
use Rattle.spec_series.specs.declared.by_part.End.{End}
use Rattle.spec_series.specs.declared.by_part.End.TheVariants.{Never, Count, Until}
use Rattle.rule_expand.specs.declared.bound.Bound.TheVariants.{Endless, Last}
use Rattle.rule_expand.proofs.Cycle.{count_from-after, count_days-more, count_days-none}
use Rattle.rule_expand.proofs.Ends.{count_next}
use Rattle.rule_expand.specs.Near.{IsNear}
use Rattle.rule_expand.proofs.Places.{count_le}
use Rattle.std.proofs.lemmas.Bool.{false_from_ne_true}
use borrow.Author.Differences.{up, down}
use Rattle.civil_days.proofs.Orders.{int_le_is, is_int_le}
use Rattle.rule_expand.proofs.DueDays.{endless_due}
use Rattle.rule_expand.proofs.CountedDays.{counted_start, counted_later, counted_cases, in_cases, in_by}
use Rattle.std.proofs.Common.{add-one}

-- one due day after another: the loop of `last_due`
module _ (due : ℤ → Bool) (d high : ℤ) where
  pub last_done : (here : ℤ) → ((here ≡ d) ⊎ ((d <ℤ here) × ((here ≤ℤ high) × (due here ≡ true)))) → ((m : ℤ) → here <ℤ m → is_up_to (Last high) m ≡ true → due m ≡ true → ⊥) → IsLastDue due d high here
  last_done here is none = record { is = is; none = λ m lt le g. none m lt (is_int_le m high le) g }

  pub last_past : (here n : ℤ) → ((here ≡ d) ⊎ ((d <ℤ here) × ((here ≤ℤ high) × (due here ≡ true)))) → IsNext due here n → high <ℤ n → IsLastDue due d high here
  last_past here n is next past = record { is = is; none = λ m lt le g. absurd (omega (arith, signed_arith, next.least m lt g)) }

  pub last_next : (here n : ℤ) → ((here ≡ d) ⊎ ((d <ℤ here) × ((here ≤ℤ high) × (due here ≡ true)))) → IsNext due here n → n ≤ℤ high → (n ≡ d) ⊎ ((d <ℤ n) × ((n ≤ℤ high) × (due n ≡ true)))
  last_next here n is next le = inr (elim is [ inl same ↦ omega (arith, signed_arith, next.past) | inr more ↦ omega (arith, signed_arith, next.past, more.0) ], (le, next.is))

-- the loop of `last_counted`
module _ (due : ℤ → Bool) (c t : ℕ) (d : ℤ) where
  pub count_first : IsCountAt due c t d d 1
  count_first =
      let U = is_counted due (Count c) t d in
      let u : U d ≡ true = counted_start due (Count c) t d in
      record {
        counted = u;
        from = omega (arith, signed_arith);
        count = count_from-after U d d 0 (omega (arith, signed_arith)) ∙ count_days-more U d 0 true d (omega (arith, signed_arith)) (sym u) ∙ ap (λ x. x + 1) (count_days-none U d);
      }

  pub count_step : (here n : ℤ) (k : ℕ) → IsCountAt due c t d here k → IsNext due here n → IsCountAt due c t d n (k + 1)
  count_step here n k at next =
      let U = is_counted due (Count c) t d in
      let a = up here + down d - (down here + up d) in
      let b = up n + down d - (down n + up d) in
      let ea : here ≡ d +ℤ pos a = omega (arith, signed_arith, at.from) in
      let eb : n ≡ d +ℤ pos b = omega (arith, signed_arith, at.from, next.past) in
      let lt : a < b = omega (arith, signed_arith, next.past) in
      let past : d <ℤ n = omega (arith, signed_arith, at.from, next.past) in
      let u : U n ≡ true = counted_later due (Count c) t d n past next.is refl in
      let gap : (j : ℕ) → a < j → j < b → U (d +ℤ pos j) ≡ false = λ j low high. false_from_ne_true (U (d +ℤ pos j)) (λ h.
      elim (counted_cases due (Count c) t d (d +ℤ pos j) h) [
        | inl same ↦ omega (arith, signed_arith)
        | inr more ↦ absurd (omega (arith, signed_arith, next.least (d +ℤ pos j) (omega (arith, signed_arith)) more.1.0))
      ]) in
      record {
        counted = u;
        from = omega (arith, signed_arith, past);
        count = count_from-after U d n b eb ∙ ap (count_days U d) (add-one b) ∙ count_next U d a b lt (ap U (sym eb) ∙ u) gap ∙ ap (λ x. x + 1) (ap (count_days U d) (sym (add-one a)) ∙ sym (count_from-after U d here a ea) ∙ at.count);
      }

  counted_in : (here : ℤ) (k : ℕ) → IsCountAt due c t d here k → k ≤ c → is_day_of_set due (Count c) t d here ≡ true
  counted_in here k at le = in_by due (Count c) t d here at.counted (rw at.count (grind (arith, nat_tests, le)))

  pub count_none : (here : ℤ) (k : ℕ) → IsCountAt due c t d here k → k ≤ c → ((m : ℤ) → here <ℤ m → due m ≡ true → ⊥) → IsGreatest (is_day_of_set due (Count c) t d) here
  count_none here k at le none = (
    counted_in here k at le,
    λ n h.
        elim (counted_cases due (Count c) t d n (in_cases due (Count c) t d n h).0) [
          | inl same ↦ rw same at.from
          | inr more ↦ by_lt_z here n (λ lt. absurd (none n lt more.1.0)) (λ ge. ge)
        ],
  )

  pub count_full : (here : ℤ) → IsCountAt due c t d here c → IsGreatest (is_day_of_set due (Count c) t d) here
  count_full here at = (
    counted_in here c at (omega arith),
    λ n h.
        let U = is_counted due (Count c) t d in
        let x = in_cases due (Count c) t d n h in
        by_lt_z here n
        (λ lt.
        let a = up here + down d - (down here + up d) in
        let b = up n + down d - (down n + up d) in
        let ea : here ≡ d +ℤ pos a = omega (arith, signed_arith, at.from) in
        let eb : n ≡ d +ℤ pos b = omega (arith, signed_arith, at.from, lt) in
        let less : a + 1 ≤ b = omega (arith, signed_arith, lt) in
        let mono = count_le U d (a + 1) b less in
        let one = count_days-more U d b true n eb (sym x.0) in
        let total = count_from-after U d n b eb in
        let mine = count_from-after U d here a ea in
        let most : count_from U d n ≤ c = grind (arith, nat_tests, x.1) in
        absurd (omega (arith, mono, one, total, mine, at.count, most)))
        (λ ge. ge),
  )

-- the loop of `is_among`: a due day that is next, and one behind the last of so many
module _ (due : ℤ → Bool) (c t : ℕ) (d here day : ℤ) (k : ℕ) (at : IsCountAt due c t d here k) (before : here <ℤ day) where
  pub among_next : (n : ℤ) → k < c → due day ≡ true → IsNext due here n → day ≤ℤ n → true ≡ is_day_of_set due (Count c) t d day
  among_next n less g next le =
      let same : n ≡ day = omega (arith, signed_arith, next.least day before g, le) in
      sym (rw (← same) (counted_in due c t d n (k + 1) (count_step due c t d here n k at next) (omega (arith, less))))

  pub among_not : k ≡ c → false ≡ is_day_of_set due (Count c) t d day
  among_not e = sym (false_from_ne_true (is_day_of_set due (Count c) t d day) (λ h. let le = (count_full due c t d here (rw e at at)).1 day h in omega (arith, signed_arith, le, before)))

-- the days up to the last whose second isn't past u
pub by_until : (u n : ℤ) (t : ℕ) → int_le (n *ℤ pos 86400 +ℤ pos t) u ≡ true → n ≤ℤ floor_div (u -ℤ pos t) 86400
by_until u n t h = omega (arith, signed_arith, int_le_is (n *ℤ pos 86400 +ℤ pos t) u h)

pub until_by : (u n : ℤ) (t : ℕ) → n ≤ℤ floor_div (u -ℤ pos t) 86400 → int_le (n *ℤ pos 86400 +ℤ pos t) u ≡ true
until_by u n t h = is_int_le (n *ℤ pos 86400 +ℤ pos t) u (omega (arith, signed_arith, h))

module _ (due : ℤ → Bool) (t : ℕ) (d : ℤ) where
  pub until_last : (u high last : ℤ) → high ≡ floor_div (u -ℤ pos t) 86400 → IsLastDue due d high last → IsGreatest (is_day_of_set due (Until u) t d) last
  until_last u high last e found = (
    in_by due (Until u) t d last
        (elim found.is [
          | inl same ↦ rw same (counted_start due (Until u) t d)
          | inr more ↦ counted_later due (Until u) t d last more.0 more.1.1 (until_by u last t (rw (← e) more.1.0))
        ]) refl,
    λ n h. elim (counted_cases due (Until u) t d n (in_cases due (Until u) t d n h).0) [
      | inl same ↦ elim found.is [ inl x ↦ omega (arith, signed_arith) | inr x ↦ omega (arith, signed_arith, x.0) ]
      | inr more ↦ by_lt_z last n (λ lt. absurd (found.none n lt (rw e (by_until u n t more.1.1)) more.1.0)) (λ ge. ge)
    ],
  )

  -- a set without an end, where no day is due after the first
  pub never_none : ((m : ℤ) → d <ℤ m → due m ≡ true → ⊥) → IsGreatest (is_day_of_set due Never t d) d
  never_none none = (
    in_by due Never t d d (counted_start due Never t d) refl,
    λ n h. elim (counted_cases due Never t d n (in_cases due Never t d n h).0) [
      | inl same ↦ omega (arith, signed_arith)
      | inr more ↦ absurd (none n more.0 more.1.0)
    ],
  )

  -- and where one is
  pub never_some : (first : ℤ) → IsNext due d first → ((n : ℤ) → due n ≡ true → (m : ℤ) × ((n <ℤ m) × (due m ≡ true))) → IsBound (is_day_of_set due Never t d) Endless
  never_some first next more n h = elim (counted_cases due Never t d n (in_cases due Never t d n h).0) [
    | inl same ↦ (first, (rw same next.past, in_by due Never t d first (counted_later due Never t d first next.past next.is refl) refl))
    | inr x ↦
        let y = more n x.1.0 in
        let past : d <ℤ y.0 = omega (arith, signed_arith, x.0, y.1.0) in
        (y.0, (y.1.0, in_by due Never t d y.0 (counted_later due Never t d y.0 past y.1.1 refl) refl))
  ]

-- the last day lies near the start
pub near_more : (n : ℤ) → IsNear 5000000 n → IsNear 147000000000 n
near_more n h = (omega (arith, signed_arith, h), omega (arith, signed_arith, h))

pub last_near : (due : ℤ → Bool) (d high last : ℤ) → IsLastDue due d high last → IsNear 5000000 d → IsNear 5000000 high → IsNear 147000000000 last
last_near due d high last h near far = elim h.is [
  | inl same ↦ rw same (near_more d near)
  | inr more ↦ (omega (arith, signed_arith, more, near), omega (arith, signed_arith, more, far))
]

-- the rule's set by its parts
pub set_is : (r : Rule) (start d : ℤ) (e : End) (t : ℕ) → d ≡ day_of_wall start → r.end ≡ e → t ≡ second_of_wall start → (n : ℤ) → is_in_set r start n ≡ is_day_of_set (is_due r d) e t d n
unfolding is_in_set
set_is r start d e t hd he ht n = rw (hd, ht) (ap (λ x. is_day_of_set (is_due r (day_of_wall start)) x (second_of_wall start) (day_of_wall start) n) he)

pub greatest_same : (p q : ℤ → Bool) (last : ℤ) → ((n : ℤ) → p n ≡ q n) → IsGreatest q last → IsGreatest p last
greatest_same p q last h g = (h last ∙ g.0, λ n k. g.1 n (sym (h n) ∙ k))

pub set_some : (r : Rule) (start d first : ℤ) → d ≡ day_of_wall start → r.end ≡ Never → IsNext (is_due r d) d first → IsBound (is_in_set r start) Endless
set_some r start d first hd he next n h =
    let same = set_is r start d Never (second_of_wall start) hd he refl in
    let m = never_some (is_due r d) (second_of_wall start) d first next (λ x. endless_due r d x) n (sym (same n) ∙ h) in
    (m.0, (m.1.0, same m.0 ∙ m.1.1))

pub set_none : (r : Rule) (start d : ℤ) → d ≡ day_of_wall start → r.end ≡ Never → ((m : ℤ) → d <ℤ m → is_due r d m ≡ true → ⊥) → IsGreatest (is_in_set r start) d
set_none r start d hd he none =
    greatest_same (is_in_set r start) _ d (set_is r start d Never (second_of_wall start) hd he refl) (never_none (is_due r d) (second_of_wall start) d none)

pub set_count : (r : Rule) (start d last : ℤ) (c : ℕ) → d ≡ day_of_wall start → r.end ≡ Count c → ((t : ℕ) → IsGreatest (is_day_of_set (is_due r d) (Count c) t d) last) → IsGreatest (is_in_set r start) last
set_count r start d last c hd he h =
    greatest_same (is_in_set r start) _ last (set_is r start d (Count c) (second_of_wall start) hd he refl) (h (second_of_wall start))

pub set_until : (r : Rule) (start d u high last : ℤ) (t : ℕ) → d ≡ day_of_wall start → r.end ≡ Until u → t ≡ second_of_wall start → high ≡ floor_div (u -ℤ pos t) 86400 → IsLastDue (is_due r d) d high last → IsGreatest (is_in_set r start) last
set_until r start d u high last t hd he ht hh found =
    greatest_same (is_in_set r start) _ last (set_is r start d (Until u) t hd he ht) (until_last (is_due r d) t d u high last hh found)
