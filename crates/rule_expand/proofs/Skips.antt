-- Days in a row that a rule doesn't keep.
use Rattle.std.proofs.Common.{◌≡◌, ℕ, ◌+◌, ◌*◌, ◌<◌, ◌^◌, refl, sym, ap, ◌∙◌, arith, subst, ℤ, pos, ◌+ℤ◌, ◌-ℤ◌, ◌≤ℤ◌, false, unsigned_abs, negsuc, zero-mul}
use Rattle.std.proofs.lemmas.Bool.{false_from_ne_true}
use Rattle.jiff_core.proofs.SignedLemmas.{signed_arith}
use Rattle.spec_series.specs.declared.rule.Rule.{Rule}
use Rattle.spec_series.specs.Periods.{period_number, period_last}
use Rattle.spec_series.specs.RuleSets.{is_kept}
use Rattle.rule_expand.specs.Near.{IsNear, most}
use Rattle.rule_expand.specs.Walk.{first_of, IsFirstPeriod, IsFirstIn, NoneIn}
use Rattle.rule_expand.proofs.Next.{period-mono}
use Rattle.rule_expand.proofs.Periods.{period-last}
use Rattle.rule_expand.proofs.Range.{in_reach}

pub size_38 : (z : ℤ) → unsigned_abs z < 2 ^ 38 → IsNear 274877906944 z
size_38 (pos n) h = (omega (arith, signed_arith), omega (arith, signed_arith))
size_38 (negsuc n) h = (omega (arith, signed_arith), omega (arith, signed_arith))

-- how far the number of a near day's period, and the first day of that period, may lie
pub number_fits : (r : Rule) (n : ℤ) → IsNear 274877906944 n → IsNear (most r.frequency) (period_number r n) × IsNear 2199023248000 (first_of r.frequency r.week_start (period_number r n))
number_fits r n near =
    let p = period_number r n in
    let none : 0 * r.interval ≡ 0 = zero-mul r.interval in
    let e : p +ℤ pos (0 * r.interval) ≡ p = omega (arith, signed_arith, none) in
    let first : IsFirstPeriod r n n p = record { same = refl; from = omega (arith, signed_arith); near = omega (arith, signed_arith, r.interval_in.0) } in
    let h = in_reach r n n p 0 (omega (arith, signed_arith, near.0), omega (arith, signed_arith, near.1)) first (omega arith) in
    (subst (λ (z : ℤ). IsNear (most r.frequency) z) e h.0, subst (λ (z : ℤ). IsNear 2199023248000 (first_of r.frequency r.week_start z)) e h.1)

-- a day between two of one period is of that period
between : (r : Rule) (n m l : ℤ) → n ≤ℤ m → m ≤ℤ l → period_number r l ≡ period_number r n → period_number r m ≡ period_number r n
between r n m l a b e =
    let low = period-mono r.frequency r.week_start n m a in
    let high = period-mono r.frequency r.week_start m l b in
    omega (arith, signed_arith, low, high, e)

-- up to the next that is kept
pub unkept_before : (r : Rule) (n next : ℤ) → IsFirstIn r (is_kept r) (n -ℤ pos 1) (period_number r n) next → (k : ℕ) → pos k ≤ℤ (next -ℤ n) → (i : ℕ) → i < k → is_kept r (n +ℤ pos i) ≡ false
unkept_before r n next first k small i lt =
    let m = n +ℤ pos i in
    let own = between r n m next (omega (arith, signed_arith)) (omega (arith, signed_arith, small, lt)) first.own in
    false_from_ne_true (is_kept r m) (λ h.
    let le = first.least m own (omega (arith, signed_arith)) h in
    omega (arith, signed_arith, le, small, lt))

-- up to the end of the period
pub unkept_rest : (r : Rule) (n : ℤ) (after : ℕ) → NoneIn r (is_kept r) (n -ℤ pos 1) (period_number r n) → period_last r.frequency r.week_start n ≡ n +ℤ pos after → (i : ℕ) → i < after + 1 → is_kept r (n +ℤ pos i) ≡ false
unkept_rest r n after none last i lt =
    let m = n +ℤ pos i in
    let same = ap (period_number r) (sym last) ∙ period-last r.frequency r.week_start n in
    let own = between r n m (n +ℤ pos after) (omega (arith, signed_arith)) (omega (arith, signed_arith, lt)) same in
    false_from_ne_true (is_kept r m) (λ h. none m own (omega (arith, signed_arith)) h)
