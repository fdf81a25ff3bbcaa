-- The whole numbers that JSON texts are read with: from -2^63 to 2^64 - 1.
use Rattle.std.specs.Prelude.{◌≡◌, refl, ◌^◌, ◌-◌, ℕ, ℤ, pos, negsuc, ◌≤ℤ◌, Bool, true, false}

abbrev pub IsWhole : ℤ → Type 0
IsWhole z = (negsuc (2 ^ 63 - 1) ≤ℤ z) × (z ≤ℤ pos (2 ^ 64 - 1))

-- a number by its sign, and by how far it is from 0, or from -1 where it is negative
abbrev pub from_parts : Bool → ℕ → ℤ
from_parts false n = pos n
from_parts true n = negsuc n

abbrev pub is_below_zero : ℤ → Bool
is_below_zero (pos n) = false
is_below_zero (negsuc n) = true

abbrev pub distance_of : ℤ → ℕ
distance_of (pos n) = n
distance_of (negsuc n) = n

-- a number is that of its parts
pub sign_back : (b : Bool) (n : ℕ) → is_below_zero (from_parts b n) ≡ b
sign_back false n = refl
sign_back true n = refl

pub distance_back : (b : Bool) (n : ℕ) → distance_of (from_parts b n) ≡ n
distance_back false n = refl
distance_back true n = refl
