-- A walk over the periods in phase of one cycle finds a day, if there is one on all days.
use Rattle.std.proofs.Common.{mul-le-mul, ◌≡◌, ℕ, zero, suc, ◌+◌, ◌-◌, ◌*◌, ◌/◌, ◌%◌, ◌<◌, ◌≤◌, inl, inr, refl, sym, ap, subst, ◌∙◌, arith, ℤ, pos, neg_ℤ, ◌+ℤ◌, ◌*ℤ◌, ◌<ℤ◌, ◌≤ℤ◌}
use Rattle.std.specs.Int.{int_div_euclid, int_rem_euclid}
use Rattle.std.proofs.lemmas.Bool.{cases_order}
use Rattle.std.proofs.lemmas.Int.{by_lt_z}
use Rattle.jiff_core.proofs.SignedLemmas.{signed_arith, int_rem_euclid-parts, unsigned_abs-parts}
use Rattle.spec_series.specs.Periods.{period_by}
use Rattle.spec_time.specs.CivilDay.{day_number, IsDate, year_of, month_of, day_of_month}
use Rattle.spec_time.specs.Floor.{modulo}
use Rattle.rule_expand.specs.Walk.{periods}
use Rattle.spec_series.specs.declared.by_part.Freq.{Freq}
use Rattle.spec_series.specs.declared.by_part.Freq.TheVariants.{Daily, Weekly, Monthly, Yearly}
use Rattle.rule_expand.proofs.Dates.{at_law, day_number-year, day_number-month}
use Rattle.rule_expand.proofs.Cycle.{later, period-cycle}
use Rattle.std.proofs.lemmas.Nat.{div-add-mod'}
use Rattle.std.proofs.Math.Nat.{add-mul, mul_assoc, mul_comm}
use borrow.Author.Differences.{up, down}

pub period-later : (f : Freq) (w : ℕ) (n q : ℤ) → period_by f w (later n q) ≡ period_by f w n +ℤ q *ℤ pos (periods f)
period-later Daily w n q = period-cycle Daily w n q
period-later Weekly w n q = period-cycle Weekly w n q
period-later Monthly w n q = period-cycle Monthly w n q
period-later Yearly w n q = period-cycle Yearly w n q

year_of-mono : (n m : ℤ) → n ≤ℤ m → year_of n ≤ℤ year_of m
year_of-mono n m h =
    let a = at_law n in
    let b = at_law m in
    by_lt_z (year_of m) (year_of n)
    (λ lt. absurd (omega (arith, signed_arith, day_number-year (year_of m) (year_of n) (month_of m) (day_of_month m) (month_of n) (day_of_month n) b.0 a.0 lt)))
    (λ ge. ge)

-- in one year the month goes with the day
month_of-mono : (n m : ℤ) → n ≤ℤ m → year_of n ≡ year_of m → month_of n ≤ month_of m
month_of-mono n m h e =
    let a = at_law n in
    let b = at_law m in
    let date : IsDate (year_of n) (month_of m) (day_of_month m) = rw e b.0 in
    let number : day_number (year_of n) (month_of m) (day_of_month m) ≡ m = rw e b.1 in
    elim (cases_order (month_of n) (month_of m)) [
      | inl same ↦ omega arith
      | inr (inl lt) ↦ omega arith
      | inr (inr gt) ↦ absurd (omega (arith, signed_arith, day_number-month (year_of n) (month_of m) (day_of_month m) (month_of n) (day_of_month n) date a.0 gt))
    ]

pub period-mono : (f : Freq) (w : ℕ) (n m : ℤ) → n ≤ℤ m → period_by f w n ≤ℤ period_by f w m
unfolding period_by
period-mono Daily w n m h = h
period-mono Weekly w n m h = omega (arith, signed_arith)
period-mono Monthly w n m h =
    by_lt_z (year_of n) (year_of m)
    (λ lt. omega (arith, signed_arith, (at_law n).0, (at_law m).0))
    (λ ge. let e : year_of n ≡ year_of m = omega (arith, signed_arith, year_of-mono n m h) in
    omega (arith, signed_arith, month_of-mono n m h e))
period-mono Yearly w n m h = year_of-mono n m h

-- a number of steps, less whole turns of P steps
turns : (P i t : ℕ) → suc t * i ≡ (t % P + 1) * i + (t / P * i) * P
turns P i t =
    let e : suc t ≡ (t % P + 1) + t / P * P = omega (arith, div-add-mod' t P) in
    let a : suc t * i ≡ (t % P + 1) * i + t / P * P * i = ap (λ x. x * i) e ∙ add-mul (t % P + 1) (t / P * P) i in
    let b : t / P * P * i ≡ t / P * i * P = mul_assoc (t / P) P i ∙ ap (λ x. t / P * x) (mul_comm P i) ∙ sym (mul_assoc (t / P) i P) in
    a ∙ ap (λ x. (t % P + 1) * i + x) b

negated : (m P : ℕ) → neg_ℤ (pos m) *ℤ pos P ≡ neg_ℤ (pos (m * P))
negated zero P = omega (arith, signed_arith)
negated (suc m) P = refl

back_by : (a : ℤ) (m P : ℕ) → a +ℤ neg_ℤ (pos m) *ℤ pos P +ℤ pos (m * P) ≡ a
back_by a m P = rw (negated m P) (omega (arith, signed_arith))

moved_back : (x p : ℤ) (s r m P : ℕ) → x ≡ p +ℤ pos s → s ≡ r + m * P → x +ℤ neg_ℤ (pos m) *ℤ pos P ≡ p +ℤ pos r
moved_back x p s r m P e f = omega (arith, signed_arith, back_by x m P)

periods-positive : (f : Freq) → 1 ≤ periods f
periods-positive Daily = omega arith
periods-positive Weekly = omega arith
periods-positive Monthly = omega arith
periods-positive Yearly = omega arith

one_le : (j i : ℕ) → 1 ≤ j → 1 ≤ i → 1 ≤ j * i
one_le j i h k = mul-le-mul h k

-- a later period has later days
pub period-lt : (f : Freq) (w : ℕ) (n m : ℤ) → period_by f w n <ℤ period_by f w m → n <ℤ m
period-lt f w n m h = by_lt_z n m (λ lt. lt) (λ ge. absurd (omega (arith, signed_arith, period-mono f w m n ge)))

-- of the periods p, p + i, p + 2 * i and so on, the first P + 1 tell whether any gives such a day
pub none_in_walk : (f : Freq) (w i : ℕ) (gives : ℤ → ℤ → Type 0) → ((p n q : ℤ) → gives p n → gives (p +ℤ q *ℤ pos (periods f)) (later n q))
    → ((p n x : ℤ) → gives p n → period_by f w x <ℤ p → x <ℤ n) → (after p : ℤ) → 1 ≤ i → period_by f w after ≤ℤ p
    → ((j : ℕ) → j ≤ periods f → (n : ℤ) → gives (p +ℤ pos (j * i)) n → after <ℤ n → ⊥)
    → (t : ℕ) (n : ℤ) → gives (p +ℤ pos (t * i)) n → after <ℤ n → ⊥
none_in_walk f w i gives cycle late after p one low walk zero n g lt = walk 0 (omega arith) n g lt
none_in_walk f w i gives cycle late after p one low walk (suc t) n g lt =
    let P = periods f in
    let j = t % P + 1 in
    let m = t / P * i in
    let n₂ = later n (neg_ℤ (pos m)) in
    let same : (p +ℤ pos (suc t * i)) +ℤ neg_ℤ (pos m) *ℤ pos P ≡ p +ℤ pos (j * i) =
    moved_back (p +ℤ pos (suc t * i)) p (suc t * i) (j * i) m P refl (turns P i t) in
    let small : j ≤ P = omega (arith, periods-positive f) in
    let back : gives (p +ℤ pos (j * i)) n₂ = subst (λ (x : ℤ). gives x n₂) same (cycle (p +ℤ pos (suc t * i)) n (neg_ℤ (pos m)) g) in
    let far : period_by f w after <ℤ (p +ℤ pos (j * i)) = omega (arith, signed_arith, one_le j i (omega arith) one, low) in
    walk j small n₂ back (late (p +ℤ pos (j * i)) n₂ after back far)

add_mul : (a b e f i : ℕ) → a + b ≡ e + f → a * i + b * i ≡ e * i + f * i
add_mul a b e f i h = sym (add-mul a b i) ∙ ap (λ x. x * i) h ∙ add-mul e f i

add_mul3 : (t b d a e i : ℕ) → t + (b + d) ≡ a + e → t * i + (b * i + d * i) ≡ a * i + e * i
add_mul3 t b d a e i h =
    ap (λ x. t * i + x) (sym (add-mul b d i)) ∙ add_mul t (b + d) a e i h

le_refl : (i : ℕ) → i ≤ i
le_refl i = omega arith

le_product : (i s : ℕ) → 1 ≤ s → i ≤ s * i
le_product i s h = omega (arith, mul-le-mul h (le_refl i))

near_parts : (i : ℕ) (p x : ℤ) → p <ℤ (x +ℤ pos i) → up p + down x < down p + up x + i
near_parts i p x h = omega (arith, signed_arith)

-- two numbers with one remainder lie whole steps apart
pub steps_between : (i : ℕ) (p x : ℤ) → 1 ≤ i → modulo x i ≡ modulo p i → p <ℤ (x +ℤ pos i) → (t : ℕ) × (x ≡ p +ℤ pos (t * i))
steps_between i p x one same near =
    let a = int_div_euclid x (pos i) in
    let b = int_div_euclid p (pos i) in
    let ra = int_rem_euclid-parts x i one in
    let rb = int_rem_euclid-parts p i one in
    by_lt_z a b
    (λ lt. let s = up b + down a - (down b + up a) in
    let e = add_mul3 s (down b) (up a) (up b) (down a) i (omega (arith, signed_arith)) in
    let big : i ≤ s * i = grind (arith, le_product i s (omega (arith, signed_arith))) in
    let h = near_parts i p x near in
    absurd (omega (arith, ra, rb, same, h, e, big, unsigned_abs-parts (int_rem_euclid x (pos i)), unsigned_abs-parts (int_rem_euclid p (pos i)))))
    (λ ge. let t = up a + down b - (down a + up b) in
    let e = add_mul3 t (down a) (up b) (up a) (down b) i (omega (arith, signed_arith)) in
    (t, omega (arith, signed_arith, ra, rb, same)))
