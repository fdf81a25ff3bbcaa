-- Tests: their two cases, and sums of them.
use Rattle.std.proofs.Common.{◌≡◌, ℕ, Bool, true, false, ◌||◌, ◌==◌, refl, sym, ◌∙◌, eq-eqb, eqb-true, ne_eqb}
use Rattle.std.proofs.lemmas.Bool.{eqb-false}

-- what holds in both cases of a test
pub by_bool : {Q : Type 0} (b : Bool) → (b ≡ true → Q) → (b ≡ false → Q) → Q
by_bool true f g = f refl
by_bool false f g = g refl

-- two tests that pass together are one
pub same_truth : (a b : Bool) → (a ≡ true → b ≡ true) → (b ≡ true → a ≡ true) → a ≡ b
same_truth true b f g = sym (f refl)
same_truth false true f g = g refl
same_truth false false f g = refl

pub or_swap : (a b c : Bool) → (a || (b || c)) ≡ (b || (a || c))
or_swap true true c = refl
or_swap true false c = refl
or_swap false b c = refl

-- a second test that fails adds nothing
pub or_nothing : (a b : Bool) → b ≡ false → a ≡ (a || b)
or_nothing true b h = refl
or_nothing false b h = sym h

-- equal numbers are equal from either side
pub eqb_sym : (a b : ℕ) → (a == b) ≡ (b == a)
eqb_sym a b = by_bool (b == a)
    (λ e. eq-eqb a b (sym (eqb-true b a e)) ∙ sym e)
    (λ e. ne_eqb a b (λ h. eqb-false b a e (sym h)) ∙ sym e)
