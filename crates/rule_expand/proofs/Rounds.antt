-- How the days of a counted set go on by whole rounds, after which the same days are due again.
use Rattle.std.proofs.Common.{◌≡◌, ◌∙◌, ℕ, zero, suc, ◌+◌, ◌-◌, ◌*◌, ◌<◌, ◌≤◌, Bool, true, false, ℤ, pos, ◌+ℤ◌, ◌*ℤ◌, ◌<ℤ◌, ◌≤ℤ◌, refl, sym, ap, arith, inl, inr}
use Rattle.std.proofs.lemmas.Int.{by_lt_z}
use Rattle.std.proofs.lemmas.Bool.{cases_lt}
use Rattle.std.proofs.Common.{mul-le-mul, zero-mul}
use Rattle.std.proofs.Math.IntN.{pos-*ℤ-pos}
use Rattle.jiff_core.proofs.SignedLemmas.{signed_arith}
use Rattle.spec_series.specs.Places.{count_days, count_from}
use Rattle.spec_series.specs.RuleSets.{is_counted, is_due}
use Rattle.spec_series.specs.declared.by_part.End.TheVariants.{Count}
use Rattle.rule_expand.specs.Sets.{IsCountAt}
use Rattle.rule_expand.proofs.Cycle.{count_from-after}
use Rattle.spec_json.proofs.Booleans.{same_truth}
use Rattle.std.proofs.lemmas.Bool.{false_from_ne_true}
use Rattle.rule_expand.proofs.CountedDays.{counted_cases, counted_later, counted_start}
use Rattle.rule_expand.proofs.DueDays.{due_again}
use Rattle.rule_expand.proofs.LastDays.{count_first}
use Rattle.spec_series.specs.declared.rule.Rule.{Rule}
use borrow.Author.Differences.{up, down}

-- the days in a row are those of a first part and those of the rest
pub count_split : (p : ℤ → Bool) (first : ℤ) (a b : ℕ) → count_days p first (b + a) ≡ count_days p first a + count_days p (first +ℤ pos a) b
unfolding count_days
count_split p first a zero = let e : 0 + a ≡ a = omega arith in rw e (omega arith)
count_split p first a (suc b) =
    let e : suc b + a ≡ suc (b + a) = omega arith in
    let at : first +ℤ pos (b + a) ≡ first +ℤ pos a +ℤ pos b = omega (arith, signed_arith) in
    rw (e, at, count_split p first a b) (omega arith)

count_same : (p q : ℤ → Bool) (first : ℤ) (k : ℕ) → ((j : ℕ) → j < k → p (first +ℤ pos j) ≡ q (first +ℤ pos j)) → count_days p first k ≡ count_days q first k
unfolding count_days
count_same p q first zero h = refl
count_same p q first (suc k) h = rw (count_same p q first k (λ j lt. h j (omega (arith, lt))), h k (omega arith)) refl

module _ (due : ℤ → Bool) (round : ℕ) (again : (n : ℤ) → due (n +ℤ pos round) ≡ due n) where
  -- a round from one day later on has as many due days
  count_later : (first : ℤ) → count_days due (first +ℤ pos 1) round ≡ count_days due first round
  unfolding count_days
  count_later first =
      let one = count_split due first 1 round in
      let last = count_split due first round 1 in
      let swap : round + 1 ≡ 1 + round = omega arith in
      let a : due (first +ℤ pos round +ℤ pos 0) ≡ due (first +ℤ pos 0) =
      ap due (omega (arith, signed_arith)) ∙ again (first +ℤ pos 0) in
      let whole = rw swap at one in
      let ends = rw a at last in
      omega (arith, whole, ends)

  -- and so has one from any later day on
  pub count_round : (first : ℤ) (k : ℕ) → count_days due (first +ℤ pos k) round ≡ count_days due first round
  count_round first zero = let e : first +ℤ pos 0 ≡ first = omega (arith, signed_arith) in rw e refl
  count_round first (suc k) =
      let e : first +ℤ pos (suc k) ≡ first +ℤ pos k +ℤ pos 1 = omega (arith, signed_arith) in
      rw e (count_later (first +ℤ pos k) ∙ count_round first k)

  module _ (c t : ℕ) (d : ℤ) where
    abbrev U : ℤ → Bool
    U = is_counted due (Count c) t d

    -- after the first day those count that are due
    counts : (n : ℤ) → d <ℤ n → U n ≡ due n
    counts n lt =
        same_truth (U n) (due n)
        (λ h. elim (counted_cases due (Count c) t d n h) [ inl same ↦ absurd (omega (arith, signed_arith, same, lt)) | inr more ↦ more.1.0 ])
        (λ h. counted_later due (Count c) t d n lt h refl)

    counts_in : (first : ℤ) (k : ℕ) → d <ℤ first → count_days U first k ≡ count_days due first k
    counts_in first k lt = count_same U due first k (λ j small. counts (first +ℤ pos j) (omega (arith, signed_arith, lt)))

    due_rounds : (n : ℤ) (q : ℕ) → due (n +ℤ pos (q * round)) ≡ due n
    due_rounds n zero = ap due (let e : 0 * round ≡ 0 = omega arith in omega (arith, signed_arith, e))
    due_rounds n (suc q) =
        let e : suc q * round ≡ q * round + round = omega arith in
        ap due (omega (arith, signed_arith, e)) ∙ again (n +ℤ pos (q * round)) ∙ due_rounds n q

    -- the k-th day one round later has as many more days before it as a round has
    one_round : (here : ℤ) (k : ℕ) → d <ℤ here → IsCountAt due c t d here k → IsCountAt due c t d (here +ℤ pos round) (k + count_days due (d +ℤ pos 1) round)
    one_round here k past at =
        let a = up here + down d - (down here + up d) in
        let ea : here ≡ d +ℤ pos a = omega (arith, signed_arith, past) in
        let eb : here +ℤ pos round ≡ d +ℤ pos (round + a) = omega (arith, signed_arith, ea) in
        let now = count_from-after U d here a ea in
        let then = count_from-after U d (here +ℤ pos round) (round + a) eb in
        let sum : round + a + 1 ≡ round + (a + 1) = omega arith in
        let split = count_split U d (a + 1) round in
        let same = counts_in (d +ℤ pos (a + 1)) round (omega (arith, signed_arith)) in
        let here_on : d +ℤ pos (a + 1) ≡ d +ℤ pos 1 +ℤ pos a = omega (arith, signed_arith) in
        let whole = ap (λ x. count_days due x round) here_on ∙ count_round (d +ℤ pos 1) a in
        record {
          counted = counted_later due (Count c) t d (here +ℤ pos round) (omega (arith, signed_arith, past)) (again here ∙ sym (counts here past) ∙ at.counted) refl;
          from = omega (arith, signed_arith, past);
          count = then ∙ ap (count_days U d) sum ∙ split ∙ omega (arith, same, whole, now, at.count);
        }

    -- and so many rounds later
    pub rounds : (here : ℤ) (k q : ℕ) → d <ℤ here → IsCountAt due c t d here k → IsCountAt due c t d (here +ℤ pos (q * round)) (k + q * count_days due (d +ℤ pos 1) round)
    rounds here k zero past at =
        let e : here +ℤ pos (0 * round) ≡ here = (let z : 0 * round ≡ 0 = omega arith in omega (arith, signed_arith, z)) in
        let f : k + 0 * count_days due (d +ℤ pos 1) round ≡ k = omega arith in
        rw (e, f) at
    rounds here k (suc q) past at =
        let N = count_days due (d +ℤ pos 1) round in
        let e : here +ℤ pos (suc q * round) ≡ here +ℤ pos (q * round) +ℤ pos round = (let m : suc q * round ≡ q * round + round = omega arith in omega (arith, signed_arith, m)) in
        let f : k + suc q * N ≡ k + q * N + N = omega arith in
        rw (e, f) (one_round (here +ℤ pos (q * round)) (k + q * N) (omega (arith, signed_arith, past)) (rounds here k q past at))

    -- the last day of the first round tells how many days a round has
    pub round_count : (here : ℤ) (k : ℕ) → IsCountAt due c t d here k → here ≤ℤ (d +ℤ pos round) → ((m : ℤ) → here <ℤ m → m ≤ℤ (d +ℤ pos round) → due m ≡ true → ⊥) → 1 + count_days due (d +ℤ pos 1) round ≡ k
    unfolding count_days
    round_count here k at high none =
        let a = up here + down d - (down here + up d) in
        let ea : here ≡ d +ℤ pos a = omega (arith, signed_arith, at.from) in
        let b = round - a in
        let sum : b + (a + 1) ≡ round + 1 = omega (arith, signed_arith, ea, high) in
        let now = count_from-after U d here a ea in
        let split = count_split U d (a + 1) b in
        let empty = nothing (d +ℤ pos (a + 1)) b (λ j lt. none (d +ℤ pos (a + 1) +ℤ pos j) (omega (arith, signed_arith, ea)) (omega (arith, signed_arith, lt, sum))) in
        let rest = counts_in (d +ℤ pos (a + 1)) b (omega (arith, signed_arith)) in
        let whole = count_split U d 1 round in
        let same = counts_in (d +ℤ pos 1) round (omega (arith, signed_arith)) in
        let start : count_days U d 1 ≡ 1 = one_day in
        let total : count_days U d (b + (a + 1)) ≡ count_days U d (round + 1) = ap (count_days U d) sum in
        omega (arith, now, at.count, split, empty, rest, whole, same, start, total)
      where
        nothing : (first : ℤ) (n : ℕ) → ((j : ℕ) → j < n → due (first +ℤ pos j) ≡ true → ⊥) → count_days due first n ≡ 0
        nothing first zero h = refl
        nothing first (suc n) h =
            let off : due (first +ℤ pos n) ≡ false = false_from_ne_true (due (first +ℤ pos n)) (h n (omega arith)) in
            rw (off, nothing first n (λ j lt. h j (omega (arith, lt)))) refl

        one_day : count_days U d 1 ≡ 1
        one_day =
            let e : d +ℤ pos 0 ≡ d = omega (arith, signed_arith) in
            let on : U (d +ℤ pos 0) ≡ true = ap U e ∙ counted_start due (Count c) t d in
            rw on refl

-- what the walk of the first round leaves, some rounds later
pub after_rounds : (r : Rule) (c t : ℕ) (d here : ℤ) (place turns : ℕ) → IsCountAt (is_due r d) c t d here place → here ≤ℤ (d +ℤ pos (r.interval * 146097))
    → ((m : ℤ) → here <ℤ m → m ≤ℤ (d +ℤ pos (r.interval * 146097)) → is_due r d m ≡ true → ⊥) → 2 ≤ place
    → IsCountAt (is_due r d) c t d (here +ℤ pos (turns * (r.interval * 146097))) (place + turns * (place - 1))
after_rounds r c t d here place turns at high none some =
    let round = r.interval * 146097 in
    let due = is_due r d in
    let again : (n : ℤ) → due (n +ℤ pos round) ≡ due n = λ n. due_again r d n (n +ℤ pos round) 1 (omega (arith, signed_arith)) in
    let one = round_count due round again c t d here place at high none in
    let past : d <ℤ here = by_lt_z d here (λ lt. lt) (λ ge. let same : here ≡ d = omega (arith, signed_arith, ge, at.from) in
    let first = (count_first due c t d).count in
    let here_one : place ≡ 1 = sym at.count ∙ ap (count_from (is_counted due (Count c) t d) d) same ∙ first in
    absurd (omega (arith, here_one, some))) in
    let each : count_days due (d +ℤ pos 1) round ≡ place - 1 = omega (arith, one) in
    let x = rounds due round again c t d here place turns past at in
    rw each at x

-- the same where no round is left
pub reached_later : (r : Rule) (c t : ℕ) (d here : ℤ) (place turns : ℕ) (later round : ℤ) → later ≡ here +ℤ pos turns *ℤ round → round ≡ pos (r.interval * 146097)
    → IsCountAt (is_due r d) c t d here place → here ≤ℤ (d +ℤ round)
    → (place < c → (m : ℤ) → here <ℤ m → m ≤ℤ (d +ℤ round) → is_due r d m ≡ true → ⊥)
    → (place ≡ 1 → turns ≡ 0) → (place ≡ c → turns ≡ 0) → 1 ≤ place → place ≤ c
    → IsCountAt (is_due r d) c t d later (place + turns * (place - 1))
reached_later r c t d here place turns later round e er at high none first last one most =
    let R = r.interval * 146097 in
    let product : pos turns *ℤ round ≡ pos (turns * R) = ap (λ x. pos turns *ℤ x) er ∙ pos-*ℤ-pos turns R in
    let there : later ≡ here +ℤ pos (turns * R) = e ∙ ap (λ x. here +ℤ x) product in
    let no_turns : turns ≡ 0 → IsCountAt (is_due r d) c t d later (place + turns * (place - 1)) = λ z.
    let gone : turns * R ≡ 0 = ap (λ x. x * R) z ∙ zero-mul R in
    let same : later ≡ here = omega (arith, signed_arith, there, gone) in
    let none_more : turns * (place - 1) ≡ 0 = ap (λ x. x * (place - 1)) z ∙ zero-mul (place - 1) in
    let count : place + turns * (place - 1) ≡ place = omega (arith, none_more) in
    rw (same, count) at in
    elim (cases_lt place c) [
      | inl below ↦ elim (cases_lt 1 place) [
        | inl more ↦ rw there (after_rounds r c t d here place turns at (rw er at high) (λ m lt le. none below m lt (rw er le)) (omega (arith, more)))
        | inr less ↦ no_turns (first (omega (arith, one, less)))
      ]
      | inr above ↦ no_turns (last (omega (arith, most, above)))
    ]

-- how far it lies
pub reached_near : (d here : ℤ) (place turns R : ℕ) (later round : ℤ) → later ≡ here +ℤ pos turns *ℤ round → round ≡ pos R → R ≤ 146097000
    → here ≤ℤ (d +ℤ pos (place * 146097000)) → (place ≡ 1 → turns ≡ 0) → 1 ≤ place → later ≤ℤ (d +ℤ pos ((place + turns * (place - 1)) * 146097000))
reached_near d here place turns R later round e er small near first one =
    let product : pos turns *ℤ round ≡ pos (turns * R) = ap (λ x. pos turns *ℤ x) er ∙ pos-*ℤ-pos turns R in
    let far : turns * R ≤ turns * 146097000 = mul-le-mul (le_self turns) small in
    let more : turns ≤ turns * (place - 1) = elim (cases_lt 1 place) [
      | inl some ↦ let x : turns * 1 ≤ turns * (place - 1) = mul-le-mul (le_self turns) (omega (arith, some)) in omega (arith, x)
      | inr none ↦ let z = first (omega (arith, one, none)) in omega (arith, z)
    ] in
    omega (arith, signed_arith, e, product, far, more, near)
  where
    le_self : (n : ℕ) → n ≤ n
    le_self n = omega arith
