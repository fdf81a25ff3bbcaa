-- Maps of the residues of a cycle of 146097 days, in words of 64 bits.
use Rattle.std.specs.Prelude.{◌≡◌, ℕ, ◌+◌, ◌/◌, ◌%◌, ◌<◌, Bool, if◌then◌else◌, min, List, length, slice_index, Option, Some, None}
use Rattle.std.specs.Int.{bit_at}
use Rattle.std.proofs.Common.{Bor}

-- bit r of a map
abbrev pub map_bit : List ℕ → ℕ → ℕ
map_bit words r = bit_at (slice_index words (r / 64)) (r % 64)

abbrev pub as_bit : Bool → ℕ
as_bit b = if b then 1 else 0

-- the words hold the answers of a test
pub record IsMap (test : ℕ → Bool) (words : List ℕ) : Type 0 where
  pub length : length words ≡ 2283
  pub bits : (r : ℕ) → r < 146097 → map_bit words r ≡ as_bit (test r)

-- the bit of a residue has a value now, and all others are as before
pub record IsPutAt (old : List ℕ) (r : ℕ) (value : Bool) (new : List ℕ) : Type 0 where
  pub length : length new ≡ 2283
  pub here : map_bit new r ≡ as_bit value
  pub others : (k : ℕ) → ((k ≡ r) → ⊥) → map_bit new k ≡ map_bit old k

-- the residue s - 8 days after one, for s from 0 to 16
abbrev pub shifted : ℕ → ℕ → ℕ
shifted r s = (r + (146089 + s)) % 146097

-- the residues that are in the one map, and s - 8 days later in the other
abbrev pub joined_bit : List ℕ → List ℕ → ℕ → ℕ → ℕ
joined_bit a b s r = min (map_bit a r) (map_bit b (shifted r s))

-- the same where there may be no other map, which then has all
abbrev pub met_bit : List ℕ → Option (Bor (List ℕ)) → ℕ → ℕ → ℕ
met_bit a None s r = map_bit a r
met_bit a (Some b) s r = joined_bit a b.now s r

-- a map, if there is one, has the words of one cycle
abbrev pub AreWords : Option (Bor (List ℕ)) → Type 0
AreWords map = (b : Bor (List ℕ)) → map ≡ Some b → length b.now ≡ 2283
