-- Numbers that rise, among all numbers.
use Rattle.std.proofs.Common.{◌≡◌, ◌≤◌, ◌<◌, ◌+◌, ◌==◌, ◌||◌, ℕ, zero, suc, List, [], ◌∷◌, Bool, true, false, cond, length, filter, slice_index, arith, refl, sym, ap, subst, ◌∙◌, ⊎_elim, nat_eq}
use Rattle.std.specs.List.{range_with_len, dedup, dedup_from}
use Rattle.std.specs.List.Sorted.{IsPermutation, IsSorted, IsStrictlyIncreasing}
use Rattle.std.specs.Ordering.{nat_cmp}
use Rattle.std.proofs.lemmas.Bool.{cases_lt, eqb-true, eq-eqb, false≢true}
use Rattle.std.proofs.lemmas.List.Sorted.{list_any-IsPermutation}
use Rattle.std.proofs.lemmas.Map.Keys.{IsStrictlyIncreasing-dedup}
use Rattle.spec_history.specs.Pages.{is_in}
use Rattle.object_log.proofs.SlotLemmas.{unlike, unlike_above}

-- they rise from a number on
abbrev pub Rises : ℕ → List ℕ → Type 0
Rises b [] = Unit {0}
Rises b (r ∷ rs) = (b ≤ r) × Rises (r + 1) rs

pub rises : (b : ℕ) (rs : List ℕ) → IsStrictlyIncreasing rs → (0 < length rs → b ≤ slice_index rs 0) → Rises b rs
rises b [] up low = tt
rises b (r ∷ rs) up low = (low (omega arith), rises (r + 1) rs (λ k h. let e : suc k + 1 ≡ suc (k + 1) = omega arith in subst (λ j. slice_index (r ∷ rs) (suc k) < slice_index (r ∷ rs) j) e (up (suc k) (omega (arith, h)))) (λ h. let next = up 0 (omega (arith, h)) in omega (arith, next)))

absent_below : (b q : ℕ) (rs : List ℕ) → q < b → Rises b rs → is_in rs q ≡ false
absent_below b q [] h up = refl
absent_below b q (r ∷ rs) h up =
    ap (λ c. c || is_in rs q) (unlike_above r q (omega (arith, h, up.0))) ∙ absent_below (r + 1) q rs (omega (arith, h, up.0)) up.1

keep_filter : (p : ℕ → Bool) (b : ℕ) (qs : List ℕ) (c : Bool) → p b ≡ c → filter p (b ∷ qs) ≡ cond c (b ∷ filter p qs) (filter p qs)
keep_filter p b qs c e = ap (λ d. cond d (b ∷ filter p qs) (filter p qs)) e

-- those that are in the list are the list
pub rising_is_filter : (n b : ℕ) (rs : List ℕ) (p : ℕ → Bool) → Rises b rs → ((r : ℕ) → b ≤ r → is_in rs r ≡ p r) → ((r : ℕ) → b + n ≤ r → p r ≡ false) → rs ≡ filter p (range_with_len b n)
rising_is_filter zero b [] p up same past = refl
rising_is_filter zero b (r ∷ rs) p up same past =
    absurd (false≢true (sym (same r up.0 ∙ past r (omega (arith, up.0))) ∙ ap (λ c. c || is_in rs r) (eq-eqb r r refl)))
rising_is_filter (suc n) b [] p up same past =
    rising_is_filter n (b + 1) [] p tt (λ r h. same r (omega (arith, h))) (λ r h. past r (omega (arith, h))) ∙ sym (keep_filter p b (range_with_len (b + 1) n) false (sym (same b (omega arith))))
rising_is_filter (suc n) b (r ∷ rs) p up same past =
    ⊎_elim
    (λ below. rising_is_filter n (b + 1) (r ∷ rs) p (omega (arith, below), up.1) (λ q h. same q (omega (arith, h))) (λ q h. past q (omega (arith, h)))
    ∙ sym (keep_filter p b (range_with_len (b + 1) n) false (sym (same b (omega arith)) ∙ absent_below (b + 1) b (r ∷ rs) (omega arith) (omega (arith, below), up.1))))
    (λ here. let at : r ≡ b = omega (arith, here, up.0) in
    let rest = rising_is_filter n (b + 1) rs p (subst (λ x. Rises (x + 1) rs) at up.1) (λ q h. behind r q rs (omega (arith, h, at)) ∙ same q (omega (arith, h))) (λ q h. past q (omega (arith, h))) in
    ap (λ l. r ∷ l) rest ∙ ap (λ x. x ∷ filter p (range_with_len (b + 1) n)) at
    ∙ sym (keep_filter p b (range_with_len (b + 1) n) true (sym (same b (omega arith)) ∙ ap (λ c. c || is_in rs b) (eq-eqb r b at))))
    (cases_lt b r)
  where
    behind : (r q : ℕ) (rs : List ℕ) → r < q → is_in rs q ≡ is_in (r ∷ rs) q
    behind r q rs h = ap (λ c. c || is_in rs q) (sym (unlike r q h))

-- ---- sorted, and each once

any_twice : (same a b : Bool) → (same ≡ true → a ≡ b) → (x : Bool) → (cond same (a || x) (a || (b || x))) ≡ (a || (b || x))
any_twice true true b h x = refl
any_twice true false b h x = ap (λ c. c || x) (h refl)
any_twice false a b h x = refl

any_dedup_from : (k q : ℕ) (xs : List ℕ) → is_in (dedup_from nat_eq k xs) q ≡ ((k == q) || is_in xs q)
any_dedup_from k q [] = refl
any_dedup_from k q (x ∷ xs) =
    split (nat_eq x k) (dedup_from nat_eq k xs) (dedup_from nat_eq x xs)
    ∙ ap (λ c. cond (nat_eq x k) c ((k == q) || is_in (dedup_from nat_eq x xs) q)) (any_dedup_from k q xs)
    ∙ ap (λ c. cond (nat_eq x k) ((k == q) || is_in xs q) ((k == q) || c)) (any_dedup_from x q xs)
    ∙ any_twice (nat_eq x k) (k == q) (x == q) (λ e. ap (λ y. y == q) (sym (eqb-true x k e))) (is_in xs q)
  where
    split : (b : Bool) (ys zs : List ℕ) → is_in (cond b ys (k ∷ zs)) q ≡ cond b (is_in ys q) ((k == q) || is_in zs q)
    split true ys zs = refl
    split false ys zs = refl

any_dedup : (xs : List ℕ) (q : ℕ) → is_in (dedup nat_eq xs) q ≡ is_in xs q
any_dedup [] q = refl
any_dedup (x ∷ xs) q = any_dedup_from x q xs

-- numbers that are sorted, each once, are the same ones
pub same_numbers : (some sorted once : List ℕ) (q : ℕ) → IsPermutation some sorted → once ≡ dedup nat_eq sorted → is_in once q ≡ is_in some q
same_numbers some sorted once q moved is = ap (λ l. is_in l q) is ∙ any_dedup sorted q ∙ sym (list_any-IsPermutation (λ n. n == q) some sorted moved)

pub once_rise : (sorted once : List ℕ) → IsSorted nat_cmp sorted → once ≡ dedup nat_eq sorted → IsStrictlyIncreasing once
once_rise sorted once up is = subst IsStrictlyIncreasing (sym is) (IsStrictlyIncreasing-dedup sorted up)

-- the first of some numbers is among them
pub first_in : (rs : List ℕ) → 0 < length rs → is_in rs (slice_index rs 0) ≡ true
first_in [] h = absurd (omega (arith, h))
first_in (r ∷ rs) h = ap (λ b. b || is_in rs r) (eq-eqb r r refl)
