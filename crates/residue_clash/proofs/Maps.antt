-- What maps say of days.
use Rattle.std.proofs.Common.{◌≡◌, ◌∙◌, ℕ, ◌+◌, ◌-◌, ◌*◌, ◌<◌, ℤ, pos, ◌+ℤ◌, ◌-ℤ◌, ◌*ℤ◌, Bool, true, false, ◌&&◌, ◌==◌, List, Option, Some, None, Bor, arith, refl, sym, ap}
use Rattle.std.proofs.lemmas.Int.{by_lt_z}
use Rattle.std.proofs.lemmas.Bool.{false_from_ne_true}
use Rattle.jiff_core.proofs.SignedLemmas.{signed_arith}
use borrow.Author.Differences.{up, down}
use Rattle.spec_time.specs.Floor.{floor_div, modulo}
use Rattle.residue_solve.specs.ResidueMap.{as_bit, map_bit, met_bit, shifted, IsMap}
use Rattle.rule_expand.proofs.Places.{and_both}
use Rattle.residue_clash.specs.RuleMaps.{HasBits}
use Rattle.residue_clash.proofs.Cycles.{same_later}

-- what comes again each cycle is the same on all days with one residue
pub same_residue : (keeps : ℤ → Bool) → ((n : ℤ) → keeps (n +ℤ pos 146097) ≡ keeps n) → (n : ℤ) (k : ℕ) → k ≡ modulo n 146097 → keeps (pos k) ≡ keeps n
same_residue keeps again n k e =
    let x = floor_div n 146097 in
    let base : n ≡ pos k +ℤ x *ℤ pos 146097 = omega (arith, signed_arith, e) in
    by_lt_z x (pos 0)
    (λ lt.
    let q = down x - up x in
    let at : pos k ≡ n +ℤ pos (q * 146097) = omega (arith, signed_arith, base, lt) in
    ap keeps at ∙ same_later keeps 146097 again n q)
    (λ ge.
    let q = up x - down x in
    let at : n ≡ pos k +ℤ pos (q * 146097) = omega (arith, signed_arith, base, ge) in
    sym (ap keeps at ∙ same_later keeps 146097 again (pos k) q))

bit_is : (b : Bool) → (as_bit b == 1) ≡ b
bit_is true = refl
bit_is false = refl

module _ (keeps : ℤ → Bool) (again : (n : ℤ) → keeps (n +ℤ pos 146097) ≡ keeps n) (words : List ℕ) (map : IsMap (λ k. keeps (pos k)) words) where
  -- the bit of a day's residue
  pub day_by_bit : (n : ℤ) (k : ℕ) → k ≡ modulo n 146097 → k < 146097 → (map_bit words k == 1) ≡ keeps n
  day_by_bit n k e small = ap (λ x. x == 1) (map.bits k small) ∙ bit_is (keeps (pos k)) ∙ same_residue keeps again n k e

  kept_bit : (n : ℤ) (k : ℕ) → k ≡ modulo n 146097 → k < 146097 → keeps n ≡ true → map_bit words k ≡ 1
  kept_bit n k e small kept = map.bits k small ∙ ap as_bit (same_residue keeps again n k e ∙ kept)

-- where nothing is met, not both keep
pub unmet_by_map : (keeps_a keeps_b : ℤ → Bool) → ((n : ℤ) → keeps_a (n +ℤ pos 146097) ≡ keeps_a n) → ((n : ℤ) → keeps_b (n +ℤ pos 146097) ≡ keeps_b n)
    → (a : List ℕ) (b : Option (Bor (List ℕ))) → IsMap (λ k. keeps_a (pos k)) a → HasBits b (λ k. keeps_b (pos k))
    → (n : ℤ) (r i o : ℕ) → r ≡ modulo n 146097 → r + i < 146097 → o < 17 → met_bit a b o (r + i) ≡ 0
    → (keeps_a (n +ℤ pos i) && keeps_b ((n +ℤ pos i) +ℤ (pos o -ℤ pos 8))) ≡ false
unmet_by_map keeps_a keeps_b again_a again_b a b map_a map_b n r i o e small few none =
    let m = n +ℤ pos i in
    let d = m +ℤ (pos o -ℤ pos 8) in
    let at : r + i ≡ modulo m 146097 = omega (arith, signed_arith, e, small) in
    false_from_ne_true (keeps_a m && keeps_b d) (λ h.
    let both = and_both (keeps_a m) (keeps_b d) h in
    let one = kept_bit keeps_a again_a a map_a m (r + i) at small both.0 in
    apart b map_b one at both.1 none)
  where
    apart : (b : Option (Bor (List ℕ))) → HasBits b (λ k. keeps_b (pos k)) → map_bit a (r + i) ≡ 1 → r + i ≡ modulo (n +ℤ pos i) 146097 → keeps_b ((n +ℤ pos i) +ℤ (pos o -ℤ pos 8)) ≡ true → met_bit a b o (r + i) ≡ 0 → ⊥
    apart None map_b one at kept zero = omega (arith, one, zero)
    apart (Some b) map_b one at kept zero =
        let there : shifted (r + i) o ≡ modulo ((n +ℤ pos i) +ℤ (pos o -ℤ pos 8)) 146097 = omega (arith, signed_arith, at, small, few) in
        let within : shifted (r + i) o < 146097 = omega arith in
        let two = kept_bit keeps_b again_b b.now (map_b b refl) ((n +ℤ pos i) +ℤ (pos o -ℤ pos 8)) (shifted (r + i) o) there within kept in
        omega (arith, zero, one, two)

pub unkept_unmet : (p q : Bool) → p ≡ false → (p && q) ≡ false
unkept_unmet true q e = absurd (cc e)
unkept_unmet false q e = refl
