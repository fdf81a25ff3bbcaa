-- Where a page ends.
use Rattle.std.proofs.Common.{◌≡◌, ◌≤◌, ◌<◌, ◌+◌, ◌-◌, ℕ, zero, suc, Bool, true, false, cond, arith, refl, sym, ap, ◌∙◌, ⊎_elim}
use Rattle.std.proofs.lemmas.Bool.{cases_lt}
use Rattle.spec_history.specs.Pages.{greatest}

-- one more state is tried
pub greatest_more : (test : ℕ → Bool) (k i : ℕ) → k ≤ i → greatest test k (i + 1 - k) ≡ cond (test (i + 1)) (i + 1) (greatest test k (i - k))
greatest_more test k i h =
    let one : i + 1 - k ≡ suc (i - k) = omega arith in
    let end : k + suc (i - k) ≡ i + 1 = omega arith in
    rw (one, end) refl

greatest_step : (test : ℕ → Bool) (k n : ℕ) → greatest test k (suc n) ≡ cond (test (k + suc n)) (k + suc n) (greatest test k n)
greatest_step test k n = refl

at_most : (b : Bool) (x y n : ℕ) → x ≤ n → y ≤ n → cond b x y ≤ n
at_most true x y n g h = g
at_most false x y n g h = h

at_least : (b : Bool) (x y n : ℕ) → n ≤ x → n ≤ y → n ≤ cond b x y
at_least true x y n g h = g
at_least false x y n g h = h

pub greatest-ge : (test : ℕ → Bool) (k n : ℕ) → k ≤ greatest test k n
greatest-ge test k zero = omega arith
greatest-ge test k (suc n) = at_least (test (k + suc n)) (k + suc n) (greatest test k n) k (omega arith) (greatest-ge test k n)

pub greatest-le : (test : ℕ → Bool) (k n : ℕ) → greatest test k n ≤ k + n
greatest-le test k zero = omega arith
greatest-le test k (suc n) = let rest = greatest-le test k n in at_most (test (k + suc n)) (k + suc n) (greatest test k n) (k + suc n) (omega arith) (omega arith)

passes : (test : ℕ → Bool) (x y : ℕ) (b : Bool) → test x ≡ b → test y ≡ true → test (cond b x y) ≡ true
passes test x y true e h = e
passes test x y false e h = h

-- what was found passes, where the number below all passes
pub greatest_passes : (test : ℕ → Bool) (k n : ℕ) → test k ≡ true → test (greatest test k n) ≡ true
greatest_passes test k zero h = h
greatest_passes test k (suc n) h = passes test (k + suc n) (greatest test k n) (test (k + suc n)) refl (greatest_passes test k n h)

below : (test : ℕ → Bool) (x m : ℕ) → test x ≡ false → test m ≡ true → m ≤ x → m < x
below test x m e t u = ⊎_elim (λ l. l) (λ g. let same : m ≡ x = omega arith in let clash : true ≡ false = sym t ∙ ap test same ∙ e in absurd (cc)) (cases_lt m x)

no_greater : (test : ℕ → Bool) (x y m : ℕ) (b : Bool) → test x ≡ b → test m ≡ true → m ≤ x → (m < x → m ≤ y) → m ≤ cond b x y
no_greater test x y m true e t u h = u
no_greater test x y m false e t u h = h (below test x m e t u)

-- no greater number passes
pub greatest_is : (test : ℕ → Bool) (k n m : ℕ) → k < m → m ≤ k + n → test m ≡ true → m ≤ greatest test k n
greatest_is test k zero m l u t = absurd (omega arith)
greatest_is test k (suc n) m l u t = no_greater test (k + suc n) (greatest test k n) m (test (k + suc n)) refl t u (λ b. greatest_is test k n m l (omega (arith, b)) t)

-- one more state, where the greatest so far is known
pub greatest_grows : (test : ℕ → Bool) (k i best next : ℕ) (b : Bool) → k ≤ i → test (i + 1) ≡ b → best ≡ greatest test k (i - k) → next ≡ cond b (i + 1) best → next ≡ greatest test k (i + 1 - k)
greatest_grows test k i best next b h e is more = more ∙ ap (λ x. cond b (i + 1) x) is ∙ ap (λ c. cond c (i + 1) (greatest test k (i - k))) (sym e) ∙ sym (greatest_more test k i h)

-- with no limit all passes
pub greatest_all : (k n : ℕ) → greatest (λ j. true) k n ≡ k + n
greatest_all k zero = omega arith
greatest_all k (suc n) = refl
