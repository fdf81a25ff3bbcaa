-- Bits of words, and of maps of words.
use Rattle.std.proofs.Common.{◌≡◌, ℕ, ◌+◌, ◌-◌, ◌*◌, ◌/◌, ◌%◌, ◌^◌, ◌<◌, ◌≤◌, arith, ap, sym, ◌∙◌, bit_or, max, div-add-mod', add-zero, inl, inr}
use Rattle.std.specs.Int.{bit_at}
use Rattle.std.specs.Prelude.{List, slice_index, slice_set, replicate, length, Bool, true, false, ◌==◌}
use Rattle.std.proofs.lemmas.Bool.{cases_lt, cases_eq}
use Rattle.std.proofs.lemmas.List.{get_or-set_same, get_or-set_other, get_or-replicate, length-set}
use Rattle.std.proofs.lemmas.Nat.{shr-shr, pow_pos, pow_below}
use Rattle.std.proofs.lemmas.Nat.Bits.{bit_at-pow_same, bit_at-pow_other, bit_at-lt, bit_at_or, bit_at_above, bit_at_cat_low, bit_at_cat_high, bit_at-zero}
use Rattle.residue_solve.specs.ResidueMap.{map_bit, as_bit, IsPutAt}

-- a bit below the width stays under `% 2 ^ w`
bit_at-mod : (x w i : ℕ) → i < w → bit_at (x % 2 ^ w) i ≡ bit_at x i
bit_at-mod x w i h =
    let e = div-add-mod' x (2 ^ w) in
    sym (bit_at_cat_low (x / 2 ^ w) w (x % 2 ^ w) i h) ∙ ap (λ y. bit_at y i) e

bit_at-shr : (x s i : ℕ) → bit_at (x / 2 ^ s) i ≡ bit_at x (s + i)
bit_at-shr x s i = ap (λ y. y % 2) (shr-shr x s i)

bit_at-shl_low : (x k i : ℕ) → i < k → bit_at (x * 2 ^ k) i ≡ 0
bit_at-shl_low x k i h = ap (λ y. bit_at y i) (sym (add-zero (x * 2 ^ k))) ∙ bit_at_cat_low x k 0 i h ∙ bit_at-zero i

bit_at-shl_high : (x k i : ℕ) → k ≤ i → bit_at (x * 2 ^ k) i ≡ bit_at x (i - k)
bit_at-shl_high x k i h = ap (λ y. bit_at y i) (sym (add-zero (x * 2 ^ k))) ∙ bit_at_cat_high x k 0 i (pow_pos k) h

-- the window of 64 bits that begins at bit s of lo
pub window_low : (lo hi s i : ℕ) → s < 64 → i + s < 64 → bit_at (bit_or (lo / 2 ^ s) (hi * 2 ^ (64 - s) % 2 ^ 64)) i ≡ bit_at lo (s + i)
window_low lo hi s i p q =
    bit_at_or (lo / 2 ^ s) (hi * 2 ^ (64 - s) % 2 ^ 64) i
    ∙ rw (bit_at-mod (hi * 2 ^ (64 - s)) 64 i (omega arith), bit_at-shl_low hi (64 - s) i (omega arith), bit_at-shr lo s i) (omega arith)

pub window_high : (lo hi s i : ℕ) → lo < 2 ^ 64 → 0 < s → s < 64 → i < 64 → 64 ≤ i + s → bit_at (bit_or (lo / 2 ^ s) (hi * 2 ^ (64 - s) % 2 ^ 64)) i ≡ bit_at hi (i + s - 64)
window_high lo hi s i r o p q h =
    let e : i - (64 - s) ≡ i + s - 64 = omega arith in
    bit_at_or (lo / 2 ^ s) (hi * 2 ^ (64 - s) % 2 ^ 64) i
    ∙ rw (bit_at-mod (hi * 2 ^ (64 - s)) 64 i q, bit_at-shl_high hi (64 - s) i (omega arith), bit_at-shr lo s i, bit_at_above lo 64 (s + i) r (omega arith)) (ap (λ k. max 0 (bit_at hi k)) e ∙ omega arith)

-- ---- A word that grows bit by bit.

pub one_bit : (i : ℕ) → i < 64 → 1 * 2 ^ i % 2 ^ 64 ≡ 2 ^ i
one_bit i h = let small : 2 ^ i < 2 ^ 64 = pow_below i 64 h in omega (arith, small)

-- one more bit that is set
pub set_same : (word bit i : ℕ) → bit ≡ 2 ^ i → bit_at word i ≡ 0 → bit_at (bit_or word bit) i ≡ 1
set_same word bit i e none = bit_at_or word bit i ∙ rw (e, none, bit_at-pow_same i) (omega arith)

pub set_other : (word bit i k : ℕ) → bit ≡ 2 ^ i → ((k ≡ i) → ⊥) → bit_at (bit_or word bit) k ≡ bit_at word k
set_other word bit i k e apart = bit_at_or word bit k ∙ rw (e, bit_at-pow_other i k apart) (omega arith)

pub set_low : (f : ℕ → ℕ) (word bit i : ℕ) → bit ≡ 2 ^ i → ((k : ℕ) → k < i → bit_at word k ≡ f k) → ((k : ℕ) → i ≤ k → bit_at word k ≡ 0) → f i ≡ 1
    → (k : ℕ) → k < i + 1 → bit_at (bit_or word bit) k ≡ f k
set_low f word bit i e low high one k lt =
    elim (cases_lt k i) [
      | inl below ↦ set_other word bit i k e (λ h. omega (arith, h, below)) ∙ low k below
      | inr above ↦ let same : k ≡ i = omega (arith, lt, above) in rw same (set_same word bit i e (high i (omega arith)) ∙ sym one)
    ]

pub set_high : (word bit i : ℕ) → bit ≡ 2 ^ i → ((k : ℕ) → i ≤ k → bit_at word k ≡ 0) → (k : ℕ) → i + 1 ≤ k → bit_at (bit_or word bit) k ≡ 0
set_high word bit i e high k le = set_other word bit i k e (λ h. omega (arith, h, le)) ∙ high k (omega (arith, le))

-- one that isn't
pub clear_low : (f : ℕ → ℕ) (word i : ℕ) → ((k : ℕ) → k < i → bit_at word k ≡ f k) → ((k : ℕ) → i ≤ k → bit_at word k ≡ 0) → f i ≡ 0
    → (k : ℕ) → k < i + 1 → bit_at word k ≡ f k
clear_low f word i low high none k lt =
    elim (cases_lt k i) [
      | inl below ↦ low k below
      | inr above ↦ let same : k ≡ i = omega (arith, lt, above) in rw same (high i (omega arith) ∙ sym none)
    ]

pub not_one : (x i : ℕ) → (bit_at x i == 1) ≡ false → bit_at x i ≡ 0
not_one x i h =
    elim (cases_lt (bit_at x i) 1) [
      | inl none ↦ omega (arith, none)
      | inr some ↦ let e : bit_at x i ≡ 1 = omega (arith, some, bit_at-lt x i) in absurd (cc (h, ap (λ y. y == 1) e))
    ]

-- a zero of what is left of a word is a zero of what the word tells
pub rest_zero : (word r i rest : ℕ) → rest ≡ word / 2 ^ (r % 64) → bit_at rest i ≡ 0 → bit_at word (r % 64 + i) ≡ 0
rest_zero word r i rest e zero = sym (bit_at-shr word (r % 64) i) ∙ ap (λ x. bit_at x i) (sym e) ∙ zero

-- ---- A map.

-- one that is empty
pub empty_bit : (k : ℕ) → k < 146097 → map_bit (replicate 2283 0) k ≡ 0
empty_bit k h = ap (λ x. bit_at x (k % 64)) (get_or-replicate 2283 (k / 64) 0 0 (omega (arith, h))) ∙ bit_at-zero (k % 64)

-- one with a bit more
pub put_bit : (words : List ℕ) (r bit : ℕ) (b : Bool) → b ≡ true → length words ≡ 2283 → r < 146097 → bit ≡ 2 ^ (r % 64) → map_bit words r ≡ 0
    → IsPutAt words r b (slice_set words (r / 64) (bit_or (slice_index words (r / 64)) bit))
put_bit words r bit b is len small e none =
    let w = r / 64 in
    let word = bit_or (slice_index words w) bit in
    let here = get_or-set_same words w word 0 (omega (arith, small, len)) in
    record {
      length = length-set words w word ∙ len;
      here = rw is (ap (λ x. bit_at x (r % 64)) here ∙ set_same (slice_index words w) bit (r % 64) e none);
      others = λ k apart. elim (cases_eq (k / 64) w) [
        | inl same ↦
            rw same (ap (λ x. bit_at x (k % 64)) here ∙ set_other (slice_index words w) bit (r % 64) (k % 64) e (λ h. apart (omega (arith, same, h))))
        | inr other ↦ ap (λ x. bit_at x (k % 64)) (get_or-set_other words w (k / 64) word 0 other)
      ];
    }

-- what lies before a place that is reached from one that is told by passing over what isn't in
pub passed : (test : ℕ → Bool) (old new : List ℕ) (r n : ℕ) → ((k : ℕ) → k < r → k < 146097 → map_bit old k ≡ as_bit (test k)) → ((k : ℕ) → r ≤ k → k < 146097 → map_bit old k ≡ 0)
    → ((k : ℕ) → ((k ≡ r) → ⊥) → map_bit new k ≡ map_bit old k) → map_bit new r ≡ as_bit (test r) → ((i : ℕ) → 0 < i → i < n → test (r + i) ≡ false)
    → (k : ℕ) → k < r + n → k < 146097 → map_bit new k ≡ as_bit (test k)
passed test old new r n done rest others here absent k lt small =
    elim (cases_lt k r) [
      | inl below ↦ others k (λ e. omega (arith, e, below)) ∙ done k below small
      | inr late ↦ elim (cases_lt r k) [
        | inl past ↦
            let at : r + (k - r) ≡ k = omega (arith, late) in
            others k (λ e. omega (arith, e, past)) ∙ rest k late small ∙ sym (ap as_bit (ap test (sym at) ∙ absent (k - r) (omega (arith, past)) (omega (arith, lt, late))))
        | inr same ↦ let e : k ≡ r = omega (arith, late, same) in rw e here
      ]
    ]

pub or_clear : (x y i : ℕ) → bit_at (bit_or x y) i ≡ 0 → (bit_at x i ≡ 0) × (bit_at y i ≡ 0)
or_clear x y i h = let e = bit_at_or x y i in (omega (arith, e, h), omega (arith, e, h))
